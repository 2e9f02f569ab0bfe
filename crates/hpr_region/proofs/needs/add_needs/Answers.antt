use Rattle.std.proofs.Common.{◌<◌, ◌≤◌, ℕ, List, All, get_or, vec_len, sym, ap, ◌∙◌, subst, arith}
use Rattle.hpr_region.specs.Private.Needs.{AreReleased, left_over, tied}
use Rattle.hpr_region.proofs.Needed.{added_none, added_room, added_some, enough_needs, read_number}
use Rattle.hpr_region.proofs.Rivalry.{readers_within, sources_within}
use Rattle.hpr_region.proofs.needs.add_needs.Goals as goal

pub release-requires-clause-sources : goal.release-requires-clause-sources
release-requires-clause-sources c =
    subst (λ (ds : List ℕ). All (λ k. k < vec_len c.args.plan.now.flows.slots) ds) (sym c.sources_of-sources.ensures) (sources_within c.args.plan.now.flows c.args.rivals.now c.requires.rivals c.args.item)

pub release-requires-clause-enough : goal.release-requires-clause-enough
release-requires-clause-enough c = λ g small.
    subst (λ (ds : List ℕ). tied c.args.plan.now.flows c.args.rivals.now c.args.placed.now c.args.item g ds ≤ get_or c.args.needs.now.items g 0) (sym c.sources_of-sources.ensures)
    (enough_needs c.args.plan.now.flows c.args.rivals.now c.requires.rivals c.args.placed.now c.args.item c.requires.once c.requires.fresh c.args.needs.now.items c.requires.needs g small)

pub returns-in_default : goal.returns-in_default
returns-in_default c =
    let t = c.args.plan.now.flows in
    let r = c.args.rivals.now in
    added_none t r c.requires.rivals c.args.placed.now c.args.item c.requires.once c.requires.fresh c.args.needs.now.items c.release.new.needs.items c.requires.needs c.release.ensures.count
    (subst (λ (ds : List ℕ). AreReleased t r c.args.placed.now c.args.item ds c.args.needs.now.items c.release.new.needs.items) c.sources_of-sources.ensures c.release.ensures.each)
    (sym c.group.ensures ∙ c.in_default.is)

pub left_over-left-requires-clause-readers : goal.left_over-left-requires-clause-readers
left_over-left-requires-clause-readers c =
    subst (λ (ds : List ℕ). All (λ k. k < vec_len c.args.plan.now.flows.slots) ds) (sym c.readers_of.ensures) (readers_within c.args.plan.now.flows c.args.item)

pub overflow_add-index_mut : goal.overflow_add-index_mut
overflow_add-index_mut c =
    let t = c.args.plan.now.flows in
    let r = c.args.rivals.now in
    let k = c.in-Some.group in
    let grouped = sym c.group.ensures ∙ c.in-Some.is in
    let within = c.requires.rivals.within c.args.item k grouped in
    let room = added_room t r c.requires.rivals c.args.placed.now c.args.item c.requires.once c.requires.fresh c.args.needs.now.items c.release.new.needs.items k c.index_mut.result.now c.left_over-left.result c.requires.needs
    (subst (λ (ds : List ℕ). AreReleased t r c.args.placed.now c.args.item ds c.args.needs.now.items c.release.new.needs.items) c.sources_of-sources.ensures c.release.ensures.each)
    grouped (read_number c.release.new.needs.items k c.index_mut.result.now (omega (arith, within, c.release.ensures.count)) c.index_mut.ensures.value)
    (c.left_over-left.ensures ∙ ap (λ (us : List ℕ). left_over t c.args.placed.now c.args.item us) c.readers_of.ensures) c.requires.room in
    omega (arith, room)

pub returns : goal.returns
returns c =
    let t = c.args.plan.now.flows in
    let r = c.args.rivals.now in
    let k = c.in-Some.group in
    let grouped = sym c.group.ensures ∙ c.in-Some.is in
    let within = c.requires.rivals.within c.args.item k grouped in
    added_some t r c.requires.rivals c.args.placed.now c.args.item c.requires.once c.requires.fresh c.args.needs.now.items c.release.new.needs.items k c.index_mut.result.now c.left_over-left.result c.requires.needs
    c.release.ensures.count
    (subst (λ (ds : List ℕ). AreReleased t r c.args.placed.now c.args.item ds c.args.needs.now.items c.release.new.needs.items) c.sources_of-sources.ensures c.release.ensures.each)
    grouped (read_number c.release.new.needs.items k c.index_mut.result.now (omega (arith, within, c.release.ensures.count)) c.index_mut.ensures.value)
    (c.left_over-left.ensures ∙ ap (λ (us : List ℕ). left_over t c.args.placed.now c.args.item us) c.readers_of.ensures)
