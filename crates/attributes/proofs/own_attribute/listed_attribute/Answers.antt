use Rattle.std.proofs.Common.{arith, refl}
use Rattle.forms.specs.Laws.Bytes.{Bytes-index}
use Rattle.attributes.specs.Laws.Place.{listed-laid, found-placed, found-spanned, found-nothing}
use Rattle.attributes.proofs.own_attribute.listed_attribute.Goals as goal

pub find-requires : goal.find-requires
find-requires c =
    let rows = c.at-rows.ensures in
    (omega arith, listed-laid c.requires rows.left rows.entries rows.bodies)

pub returns-in_err-row-clause-placed : goal.returns-in_err-row-clause-placed
returns-in_err-row-clause-placed c =
    let rows = c.at-rows.ensures in
    let found = c.in_err-row.ensures in
    rw c.from_residual.ensures (found-nothing c.requires rows.left rows.entries rows.bodies found.passed found.sought).0

pub returns-in_err-row-clause-spanned : goal.returns-in_err-row-clause-spanned
returns-in_err-row-clause-spanned c =
    let rows = c.at-rows.ensures in
    let found = c.in_err-row.ensures in
    rw c.from_residual.ensures (found-nothing c.requires rows.left rows.entries rows.bodies found.passed found.sought).1

pub returns-clause-placed : goal.returns-clause-placed
returns-clause-placed c =
    let rows = c.at-rows.ensures in
    let found = c.in_ok-row.ensures in
    found-placed c.requires rows.left rows.entries rows.bodies found.passed found.sought.0 found.sought.1 _ refl refl c.is_required.ensures

pub returns-clause-spanned : goal.returns-clause-spanned
returns-clause-spanned c =
    let rows = c.at-rows.ensures in
    let found = c.in_ok-row.ensures in
    found-spanned c.requires rows.left rows.entries rows.bodies found.passed found.sought.0 found.sought.1
    (Bytes-index c.args.t.now (λ i. omega (arith, c.type_inv.t i)))
