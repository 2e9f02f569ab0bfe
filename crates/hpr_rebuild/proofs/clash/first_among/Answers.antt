use Rattle.std.proofs.Common.{◌≡◌, ◌<◌, Some, map, slice_get, subst, ap, sym, ◌∙◌}
use Rattle.hpr_region.specs.declared.plan.Plan.{Plan}
use Rattle.hpr_region.specs.Plans.{numbers_at, size_of, vertex_at, vertices_at}
use Rattle.hpr_rebuild.proofs.Searched.{clash_of, first_item, first_number, first_numbers, no_clash_of}
use Rattle.hpr_rebuild.proofs.clash.first_among.Goals as goal

pub number_at-part-requires : goal.number_at-part-requires
number_at-part-requires c =
    let s = c.args.candidates in
    let plan = s.search.plan in
    let sound = c.requires.sound in
    let (rank, is) = sound.plan_of in
    let listed = is.listed s.issued.now sound.proper sound.allowed in
    let (_, _, _, stays) = c.in-Some.ensures.same in
    subst (λ (p : Plan). c.in-Some.item < size_of p) stays
    (first_item s.graph.now rank plan is s.issued.now listed c.first_clash.new.search.search.placed c.in-Some.item c.in-Some.ensures.leaf)

pub returns-in_default-clause-none : goal.returns-in_default-clause-none
returns-in_default-clause-none c = λ rank is.
    let s = c.args.candidates in
    let listed = is.listed s.issued.now c.requires.sound.proper c.requires.sound.allowed in
    no_clash_of s.graph.now rank s.search.plan is s.issued.now listed c.in_default.ensures.none

pub returns-clause-clash : goal.returns-clause-clash
returns-clause-clash c = λ rank is.
    let s = c.args.candidates in
    let g = s.graph.now in
    let plan = s.search.plan in
    let listed = is.listed s.issued.now c.requires.sound.proper c.requires.sound.allowed in
    let q = c.first_clash.new.search.search.placed in
    let item = c.in-Some.item in
    let leaf = c.in-Some.ensures.leaf in
    let part = c.number_at-part.result in
    let (_, _, _, stays) = c.in-Some.ensures.same in (
      vertices_at g plan q,
      vertex_at g plan item,
      ap (map (slice_get g.vertices)) (c.in_ok-front.ensures.items ∙ c.placed.ensures ∙ ap (λ (p : Plan). numbers_at p q) (sym stays))
          ∙ first_numbers g rank plan is s.issued.now listed q item leaf,
      first_number g rank plan is s.issued.now listed q item part leaf
          (subst (λ (p : Plan). slice_get p.numbers.items item ≡ Some part) (sym stays) c.number_at-part.ensures.there),
      clash_of g rank plan is s.issued.now listed q item leaf c.in-Some.ensures.clashes,
    )
