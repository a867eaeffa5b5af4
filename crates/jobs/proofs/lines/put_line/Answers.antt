use Rattle.writing.specs.FormLengths.{seen}
use Rattle.writing.specs.Laws.Writing.{written_same}
use Rattle.jobs.specs.Laws.Lines.{line-room, index-left, head-left, body-left, line-told}
use Rattle.jobs.specs.LineBytes.{field}
use Prim.Native.Nat.{ℕ}
use mathlib.Core.Path.{ap}
use native.Mathlib.Omega.{arith}
use Rattle.jobs.proofs.lines.put_line.Goals as goal

pub put_field-number_at-requires : goal.put_field-number_at-requires
put_field-number_at-requires c =
    let number = c.number-refusal in
    let args = c.args in
    omega (arith, line-room args.index (seen args.answer) args.res.now args.out.now c.requires number.result number.ensures)

pub put_field-requires : goal.put_field-requires
put_field-requires c =
    let put-field = c.put_field-number_at in
    let number = c.number-refusal in
    let args = c.args in
    let by-index-left = index-left args.index (seen args.answer) args.res.now args.out.now c.requires number.result number.ensures
    put-field.ensures in
    rw number.ensures.0 by-index-left.1

pub put_one-requires : goal.put_one-requires
put_one-requires c =
    let put-answer = c.put_answer in
    let put-field2 = c.put_field in
    let put-field = c.put_field-number_at in
    let number = c.number-refusal in
    let args = c.args in
    let by-written-same = written_same (ap (λ (j : ℕ). field j) number.ensures.0) put-field2.ensures in
    (body-left args.index (seen args.answer) args.res.now args.out.now c.requires number.result number.ensures put-field.ensures
    by-written-same put-answer.ensures).1

pub returns : goal.returns
returns c =
    let put_one = c.put_one in
    let put-answer = c.put_answer in
    let put-field2 = c.put_field in
    let put-field = c.put_field-number_at in
    let number = c.number-refusal in
    let args = c.args in
    let by-written-same = written_same (ap (λ (j : ℕ). field j) number.ensures.0) put-field2.ensures in
    line-told args.index (seen args.answer) args.res.now args.out.now c.requires number.result number.ensures put-field.ensures
    by-written-same put-answer.ensures put_one.ensures

pub put_answer-requires-clause-res_in_bounds : goal.put_answer-requires-clause-res_in_bounds
put_answer-requires-clause-res_in_bounds c =
    let put-field2 = c.put_field in
    let put-field = c.put_field-number_at in
    let number = c.number-refusal in
    let args = c.args in
    let by-written-same = written_same (ap (λ (j : ℕ). field j) number.ensures.0) put-field2.ensures in
    let by-head-left = head-left args.index (seen args.answer) args.res.now args.out.now c.requires number.result number.ensures
    put-field.ensures by-written-same in
    by-head-left.1
