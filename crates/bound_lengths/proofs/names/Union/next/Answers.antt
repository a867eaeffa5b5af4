use Rattle.std.proofs.Common.{sym, ◌∙◌, refl}
use Rattle.forms.specs.Names.{names_in}
use Rattle.bound_lengths.specs.Laws.Names.{taken-one, taken-past, next-both, next-left, next-right, next-end}
use Rattle.bound_lengths.proofs.names.Union.next.Goals as goal

pub slice_bounds-self-count : goal.slice_bounds-self-count
slice_bounds-self-count c =
    let here = c.in-Some-Some in
    (taken-past c.requires.0 here.p (sym here.ensures.value) here.q c.taken.result _ c.taken.ensures refl).room

pub slice_bounds-self-start : goal.slice_bounds-self-start
slice_bounds-self-start c = slice_bounds-self-count c

pub slice_bounds-self-count-in-Some-Some : goal.slice_bounds-self-count-in-Some-Some
slice_bounds-self-count-in-Some-Some c =
    let here = c.in-Some-Some in
    (taken-past c.requires.1 here.q (sym here.ensures'.value) here.p c.taken-in-Some-Some.result _ c.taken-in-Some-Some.ensures refl).room

pub slice_bounds-self-start-in-Some-Some : goal.slice_bounds-self-start-in-Some-Some
slice_bounds-self-start-in-Some-Some c = slice_bounds-self-count-in-Some-Some c

pub slice_bounds-self-count-in-Some-None : goal.slice_bounds-self-count-in-Some-None
slice_bounds-self-count-in-Some-None c = (taken-one c.requires.0 c.in-Some-None.p (sym c.in-Some-None.ensures.value)).room

pub slice_bounds-self-start-in-Some-None : goal.slice_bounds-self-start-in-Some-None
slice_bounds-self-start-in-Some-None c = slice_bounds-self-count-in-Some-None c

pub slice_bounds-self-count-in-None-Some : goal.slice_bounds-self-count-in-None-Some
slice_bounds-self-count-in-None-Some c = (taken-one c.requires.1 c.in-None-Some.q (sym c.in-None-Some.ensures.value)).room

pub slice_bounds-self-start-in-None-Some : goal.slice_bounds-self-start-in-None-Some
slice_bounds-self-start-in-None-Some c = slice_bounds-self-count-in-None-Some c

pub returns-in-Some-Some : goal.returns-in-Some-Some
returns-in-Some-Some c =
    let here = c.in-Some-Some in
    next-both c.requires.0 c.requires.1 here.p here.q c.taken.result c.taken-in-Some-Some.result c.min.result (sym here.ensures.value) (sym here.ensures'.value)
    here.ensures.small c.taken.ensures c.taken-in-Some-Some.ensures c.min.ensures

pub returns-in-Some-None : goal.returns-in-Some-None
returns-in-Some-None c =
    let here = c.in-Some-None in
    next-left c.requires.0 c.requires.1 here.p (sym here.ensures.value) (sym here.ensures'.value) here.ensures.small

pub returns-in-None-Some : goal.returns-in-None-Some
returns-in-None-Some c =
    let here = c.in-None-Some in
    next-right c.requires.0 c.requires.1 here.q (sym c.first.ensures.value ∙ here.is-0) (sym here.ensures.value) here.ensures.small

pub returns-in-None-None : goal.returns-in-None-None
returns-in-None-None c =
    let here = c.in-None-None in
    next-end (names_in c.args.self.now.left.now) (names_in c.args.self.now.right.now) (sym c.first.ensures.value ∙ here.is-0)
    (sym c.first-2.ensures.value ∙ here.is-1)
