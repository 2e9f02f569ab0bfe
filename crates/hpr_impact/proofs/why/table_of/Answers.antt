use Rattle.std.proofs.Common.{◌∙◌, ◌<◌, None, Some, length, get_or, ap, subst, sym, arith}
use Rattle.std.proofs.lemmas.List.{length-replicate, length-set}
use Rattle.std.proofs.lemmas.List.Elements.{Contains-get_or}
use Rattle.hpr_impact.specs.declared.search.Visit.{Visit}
use Rattle.hpr_impact.specs.Private.Ways.{IsTableOf}
use Rattle.hpr_impact.proofs.Tables.{table_none, table_more, table_all}
use Rattle.hpr_impact.proofs.why.table_of.Goals as goal

no_visit : Visit
no_visit = record { point = 0; from = None; root = 0 }

pub loop-visit-init : goal.loop-visit-init
loop-visit-init c = record {
  count = ap length c.in_ok-table.ensures ∙ length-replicate c.args.count None;
  table = subst (IsTableOf _) (sym c.in_ok-table.ensures) (table_none c.args.visits.now c.args.count);
}

pub index_mut-requires : goal.index_mut-requires
unfolding no_visit
index_mut-requires c =
    let v = get_or c.args.visits.now c.loop-visit.visit-index no_visit in
    let within = c.requires v (Contains-get_or c.args.visits.now c.loop-visit.visit-index no_visit c.loop-visit-test.true) in
    omega (arith, within, c.loop-visit.invariant.count)

pub loop-visit-preserved : goal.loop-visit-preserved
unfolding no_visit
loop-visit-preserved c =
    let table = c.loop-visit.table.items in
    let v = get_or c.args.visits.now c.loop-visit.visit-index no_visit in
    let within : v.point < length table = let w = c.requires v (Contains-get_or c.args.visits.now c.loop-visit.visit-index no_visit c.loop-visit-test.true) in omega (arith, w, c.loop-visit.invariant.count) in
    record {
      count = length-set table v.point (Some v) ∙ c.loop-visit.invariant.count;
      table = table_more no_visit c.args.visits.now c.loop-visit.visit-index table c.loop-visit-test.true within c.loop-visit.invariant.table;
    }

pub returns : goal.returns
returns c = table_all c.args.visits.now c.loop-visit.visit-index _ c.loop-visit-test.false c.loop-visit.invariant.table
