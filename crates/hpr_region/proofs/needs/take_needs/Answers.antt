use Rattle.std.proofs.Common.{◌+◌, ◌<◌, ◌^◌, ℕ, List, All, get_or, vec_len, sym, ap, ◌∙◌, subst, arith}
use Rattle.hpr_region.specs.Private.Needs.{AreRestored, left_over, tied}
use Rattle.hpr_region.proofs.Needed.{read_number, taken_enough, taken_none, taken_room, taken_some}
use Rattle.hpr_region.proofs.Rivalry.{readers_within, sources_within}
use Rattle.hpr_region.proofs.needs.take_needs.Goals as goal

pub restore-requires-clause-sources : goal.restore-requires-clause-sources
restore-requires-clause-sources c =
    subst (λ (ds : List ℕ). All (λ k. k < vec_len c.args.plan.now.flows.slots) ds) (sym c.sources_of-sources.ensures) (sources_within c.args.plan.now.flows c.args.rivals.now c.requires.rivals c.args.item)

pub restore-requires-clause-room : goal.restore-requires-clause-room
restore-requires-clause-room c = λ g small.
    subst (λ (ds : List ℕ). get_or c.args.needs.now.items g 0 + tied c.args.plan.now.flows c.args.rivals.now c.args.placed.now c.args.item g ds < 2 ^ 128) (sym c.sources_of-sources.ensures)
    (taken_room c.args.plan.now.flows c.args.rivals.now c.requires.rivals c.args.placed.now c.args.item c.requires.once c.requires.fresh c.args.needs.now.items c.requires.needs c.requires.room g small)

pub returns-in_default : goal.returns-in_default
returns-in_default c =
    let t = c.args.plan.now.flows in
    let r = c.args.rivals.now in
    taken_none t r c.requires.rivals c.args.placed.now c.args.item c.requires.once c.requires.fresh c.args.needs.now.items c.restore.new.needs.items c.requires.needs c.restore.ensures.count
    (subst (λ (ds : List ℕ). AreRestored t r c.args.placed.now c.args.item ds c.args.needs.now.items c.restore.new.needs.items) c.sources_of-sources.ensures c.restore.ensures.each)
    (sym c.group.ensures ∙ c.in_default.is)

pub left_over-left-requires-clause-readers : goal.left_over-left-requires-clause-readers
left_over-left-requires-clause-readers c =
    subst (λ (ds : List ℕ). All (λ k. k < vec_len c.args.plan.now.flows.slots) ds) (sym c.readers_of.ensures) (readers_within c.args.plan.now.flows c.args.item)

pub overflow_sub-index_mut : goal.overflow_sub-index_mut
overflow_sub-index_mut c =
    let t = c.args.plan.now.flows in
    let r = c.args.rivals.now in
    let k = c.in-Some.group in
    let grouped = sym c.group.ensures ∙ c.in-Some.is in
    let within = c.requires.rivals.within c.args.item k grouped in
    taken_enough t r c.requires.rivals c.args.placed.now c.args.item c.requires.once c.requires.fresh c.args.needs.now.items c.restore.new.needs.items k c.index_mut.result.now c.left_over-left.result c.requires.needs
    (subst (λ (ds : List ℕ). AreRestored t r c.args.placed.now c.args.item ds c.args.needs.now.items c.restore.new.needs.items) c.sources_of-sources.ensures c.restore.ensures.each)
    grouped (read_number c.restore.new.needs.items k c.index_mut.result.now (omega (arith, within, c.restore.ensures.count)) c.index_mut.ensures.value)
    (c.left_over-left.ensures ∙ ap (λ (us : List ℕ). left_over t c.args.placed.now c.args.item us) c.readers_of.ensures)

pub returns : goal.returns
returns c =
    let t = c.args.plan.now.flows in
    let r = c.args.rivals.now in
    let k = c.in-Some.group in
    let grouped = sym c.group.ensures ∙ c.in-Some.is in
    let within = c.requires.rivals.within c.args.item k grouped in
    taken_some t r c.requires.rivals c.args.placed.now c.args.item c.requires.once c.requires.fresh c.args.needs.now.items c.restore.new.needs.items k c.index_mut.result.now c.left_over-left.result c.requires.needs
    c.restore.ensures.count
    (subst (λ (ds : List ℕ). AreRestored t r c.args.placed.now c.args.item ds c.args.needs.now.items c.restore.new.needs.items) c.sources_of-sources.ensures c.restore.ensures.each)
    grouped (read_number c.restore.new.needs.items k c.index_mut.result.now (omega (arith, within, c.restore.ensures.count)) c.index_mut.ensures.value)
    (c.left_over-left.ensures ∙ ap (λ (us : List ℕ). left_over t c.args.placed.now c.args.item us) c.readers_of.ensures)
