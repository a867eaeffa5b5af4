use Rattle.std.proofs.Common.{refl, sym, ◌∙◌, arith, length, ◌+◌, true, false}
use Rattle.forms.specs.Modes.{as_mode}
use Rattle.forms.specs.Names.{names_in}
use Rattle.forms.specs.Laws.Bytes.{Bytes-index}
use Rattle.bound_lengths.specs.Laws.Names.{names-twice, entities-same, permissive-names, strict-length, strict-not}
use Rattle.bound_lengths.proofs.bound_length.entities_length.Goals as goal

pub returns-then-is_permissive : goal.returns-then-is_permissive
returns-then-is_permissive c =
    permissive-names (as_mode c.args.mode) (names_in c.args.a.now) (names_in c.args.b.now) (sym c.if-is_permissive.ensures) c.count.result c.longer.result c.count.ensures.many c.longer.ensures

pub returns-then-eq : goal.returns-then-eq
returns-then-eq c =
    let a = c.args.a.now in
    let b = c.args.b.now in
    let same = entities-same a b (Bytes-index a (λ i. (c.type_inv.a i).fits)) (Bytes-index b (λ i. (c.type_inv.b i).fits)) c.requires.0 c.requires.1 in
    strict-length (as_mode c.args.mode) (names_in a) (names_in b) (sym c.if-is_permissive.ensures) true (c.if-eq.ensures ∙ same) refl (length a + 3) _
    (omega (arith, names-twice c.requires.0)) c.longer-then-eq.ensures

pub returns : goal.returns
returns c =
    let a = c.args.a.now in
    let b = c.args.b.now in
    let same = entities-same a b (Bytes-index a (λ i. (c.type_inv.a i).fits)) (Bytes-index b (λ i. (c.type_inv.b i).fits)) c.requires.0 c.requires.1 in
    strict-not (as_mode c.args.mode) (names_in a) (names_in b) (sym c.if-is_permissive.ensures) false (c.if-eq.ensures ∙ same) refl
