use Rattle.std.proofs.Common.{ℕ, List, ◌++◌, ◌∷◌, [], Vec, Global, Contains, map, subst, sym, take}
use Rattle.std.specs.List.{AllZip}
use Rattle.std.proofs.lemmas.List.{take_all}
use Rattle.hpr_terms.proofs.Facts.{in_map}
use Rattle.hpr_search.specs.Rows.{numbers_of}
use Rattle.hpr_located.specs.Sources.{standing_of}
use Rattle.hpr_interference.specs.Answers.{group_data}
use Rattle.hpr_interference.specs.Private.Rows.{IsRow}
use Rattle.hpr_interference.proofs.Grouped.{rows_more, zip_more}
use Rattle.hpr_interference.proofs.Listed.{told_end}
use Rattle.hpr_interference.proofs.groups.group_values.Goals as goal

pub group_value-requires-clause-within : goal.group_value-requires-clause-within
group_value-requires-clause-within c = λ i has.
    c.requires.within c.row-item.result.items i
    (in_map (λ (row : Vec ℕ Global). row.items) c.args.rows.now c.row-item.result (c.loop-row.row-index, c.loop-row-test.true, sym c.row-item.is))
    (subst (λ (xs : List ℕ). Contains xs i) c.deref.ensures.value has)

pub loop-row-preserved : goal.loop-row-preserved
loop-row-preserved c =
    let cs = c.args.conflicts.now in
    let rows = c.args.rows.now in
    let i = c.loop-row.row-index in
    let row = c.row-item.result in
    let f = group_data (map standing_of c.args.sources.now) in
    let (gs, all, told) = c.loop-row.invariant in
    let (g, by, shows) = c.in_ok-value.ensures in
    let by_row = subst (λ (xs : List ℕ). IsRow cs xs g) c.deref.ensures.value by in
    let more = zip_more (IsRow cs) (numbers_of (take i rows)) gs row.items g all by_row in (
      gs ++ g ∷ [],
      subst (λ (rs : List (List ℕ)). AllZip (IsRow cs) rs (gs ++ g ∷ [])) (sym (rows_more rows i row c.loop-row-test.true c.row-item.is)) more,
      told_end f gs g c.loop-row.values.items c.push.new.self.items c.in_ok-value.value c.in_ok-push.ensures.items told shows,
    )

pub returns : goal.returns
returns c =
    let (gs, all, told) = c.loop-row.invariant in
    let done = take_all c.loop-row.row-index c.args.rows.now c.loop-row-test.false in
    (gs, subst (λ (rs : List (Vec ℕ Global)). AllZip (IsRow c.args.conflicts.now) (numbers_of rs) gs) done all, told)
