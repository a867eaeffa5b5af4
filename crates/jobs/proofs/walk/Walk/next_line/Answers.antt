use Rattle.jobs.specs.Laws.Walk.{stands-is, fewer}
use Rattle.jobs.specs.Laws.Asking.{no_line, answered-at, line-written}
use Rattle.jobs.proofs.walk.Walk.next_line.Goals as goal

pub returns-in_err-question-clause-line : goal.returns-in_err-question-clause-line
returns-in_err-question-clause-line c =
    rw c.from_residual.ensures (no_line c.args.self.now.job.now c.args.self.now.cursor c.in_err-question.ensures.question c.args.out.now)

pub returns-clause-line : goal.returns-clause-line
returns-clause-line c =
    let job = c.args.self.now.job.now in
    let at = c.args.self.now.cursor in
    let question = c.in_ok-question.ensures.question in
    let schema = c.args.self.now.own_check.1 (stands-is job at question.0).inside in
    let answered = answered-at job at c.in_ok-question.question schema question.1 c.ask-answer.ensures in
    line-written job at question.0 answered c.put_line.ensures question.2

pub returns-clause-fewer : goal.returns-clause-fewer
returns-clause-fewer c =
    let question = c.in_ok-question.ensures.question in
    fewer c.args.self.now.job.now c.args.self.now.cursor question.0 question.2
