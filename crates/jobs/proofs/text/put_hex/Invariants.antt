use Rattle.std.proofs.Common.{drop}
use Rattle.writing.specs.Laws.Writing.{Writing}
use Rattle.cedar.specs.Lines.{hex}
use Rattle.jobs.proofs.text.put_hex.Given as goal

abbrev pub invariant-loop-x : goal.invariant-loop-x
invariant-loop-x l = Writing (hex l.b) (hex (drop l.x-index l.b)) l.initial.out l.at l.out
