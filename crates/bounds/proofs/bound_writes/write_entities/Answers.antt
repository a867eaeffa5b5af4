use Rattle.std.proofs.Common.{◌≡◌, refl, ◌∙◌, length}
use Rattle.cedar.specs.Bound.{union}
use Rattle.forms.specs.Parts.{rd, rest}
use Rattle.forms.specs.TypeBytes.{names_by}
use Rattle.writing.specs.Laws.Laying.{ready-room, behind-front, behind-ready, behind-written}
use Rattle.bound_lengths.specs.Laws.Names.{entity-names}
use Rattle.bounds.specs.Laws.BoundWrites.{entities-cut, entities-few}
use Rattle.bounds.proofs.bound_writes.write_entities.Goals as goal

pub put_kind-requires : goal.put_kind-requires
put_kind-requires c =
    let first = entity-names c.args.a.now c.requires.a_len in
    let second = entity-names c.args.b.now c.requires.b_len in
    let ns = names_by 2 (rd c.args.a.now 1) (rest 3 c.args.a.now) in
    let ks = names_by 2 (rd c.args.b.now 1) (rest 3 c.args.b.now) in
    let many : c.count.result ≡ length (union ns ks) = c.count.ensures.many ∙ rw (first, second) refl in
    let cut = entities-cut ns ks c.count.result many in
    (behind-front cut c.requires.ready, entities-few ns ks c.count.result many c.requires.ready)

pub write_union-requires-clause-room : goal.write_union-requires-clause-room
write_union-requires-clause-room c =
    let first = entity-names c.args.a.now c.requires.a_len in
    let second = entity-names c.args.b.now c.requires.b_len in
    let ns = names_by 2 (rd c.args.a.now 1) (rest 3 c.args.a.now) in
    let ks = names_by 2 (rd c.args.b.now 1) (rest 3 c.args.b.now) in
    let many : c.count.result ≡ length (union ns ks) = c.count.ensures.many ∙ rw (first, second) refl in
    let cut = entities-cut ns ks c.count.result many in
    let ready = behind-ready cut c.requires.ready c.put_kind.new.out 3 c.put_kind.ensures refl in
    rw (first, second) (ready-room ready (union ns ks) refl).1

pub returns : goal.returns
returns c =
    let first = entity-names c.args.a.now c.requires.a_len in
    let second = entity-names c.args.b.now c.requires.b_len in
    let ns = names_by 2 (rd c.args.a.now 1) (rest 3 c.args.a.now) in
    let ks = names_by 2 (rd c.args.b.now 1) (rest 3 c.args.b.now) in
    let many : c.count.result ≡ length (union ns ks) = c.count.ensures.many ∙ rw (first, second) refl in
    let cut = entities-cut ns ks c.count.result many in
    behind-written cut c.requires.ready c.put_kind.new.out 3 c.put_kind.ensures refl c.write_union.new.out c.write_union.result
    (rw (first, second) at c.write_union.ensures)
