use Rattle.std.proofs.Common.{length, refl, arith}
use Rattle.forms.specs.Modes.{as_mode}
use Rattle.folds.specs.Laws.Steps.{stepping, step-none, step-over, step-written}
use Rattle.folds.proofs.steps.write_step.Goals as goal

pub returns-in-Err : goal.returns-in-Err
returns-in-Err c =
    let from = stepping c.requires.held c.requires.t_whole (λ i. grind arith) (λ i. (c.type_inv.t i).fits) in
    step-none (as_mode c.args.mode) from _ c.in-Err.ensures (length c.args.work.now) c.in-Err.reason refl

pub returns-then-min-n : goal.returns-then-min-n
returns-then-min-n c =
    let from = stepping c.requires.held c.requires.t_whole (λ i. grind arith) (λ i. (c.type_inv.t i).fits) in
    step-over (as_mode c.args.mode) from _ c.in-Ok.ensures (length c.args.work.now) c.in-Ok.n refl (rw c.min.ensures at c.if-min-n.true)

pub returns-then-second : goal.returns-then-second
returns-then-second c =
    let from = stepping c.requires.held c.requires.t_whole (λ i. grind arith) (λ i. (c.type_inv.t i).fits) in
    step-written (as_mode c.args.mode) from _ c.in-Ok.ensures (length c.args.work.now) c.in-Ok.n refl (rw c.min.ensures at c.if-min-n.false)
    c.write_through.new.last c.write_through.auto.last c.write_through.ensures

pub returns-else-second : goal.returns-else-second
returns-else-second c =
    let from = stepping c.requires.held c.requires.t_whole (λ i. grind arith) (λ i. (c.type_inv.t i).fits) in
    step-written (as_mode c.args.mode) from _ c.in-Ok.ensures (length c.args.work.now) c.in-Ok.n refl (rw c.min.ensures at c.if-min-n.false)
    c.write_through-else-second.new.last c.write_through-else-second.auto.last c.write_through-else-second.ensures
