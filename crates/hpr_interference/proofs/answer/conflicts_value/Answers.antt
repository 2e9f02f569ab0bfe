use Rattle.std.proofs.Common.{◌≡◌, ◌∙◌, ℕ, List, Vec, Global, Contains, ap, ap₂, codes, map, subst}
use Rattle.std.specs.Prelude.{zip}
use Rattle.std.specs.List.{AllZip}
use Rattle.serde_json.specs.Data.{Data, array, member, no_members, object, string}
use Rattle.serde_json.specs.View.{items_of, view}
use Rattle.serde_json.specs.Written.{has_float}
use Rattle.hpr_terms.proofs.Facts.{place_of}
use Rattle.hpr_search.specs.Rows.{numbers_of}
use Rattle.hpr_located.specs.Sources.{standing_of}
use Rattle.hpr_conflicts.specs.Groups.{AreRows}
use Rattle.hpr_interference.specs.Answers.{conflict_data}
use Rattle.hpr_interference.specs.Private.Rows.{IsRow}
use Rattle.hpr_interference.proofs.Grouped.{are_groups, row_some, row_within}
use Rattle.hpr_interference.proofs.Whole.{answer_whole}
use Rattle.hpr_interference.proofs.answer.conflicts_value.Goals as goal

pub group_rows-requires : goal.group_rows-requires
group_rows-requires c = λ n has. c.in_ok-numbers.ensures.within n (subst (λ (xs : List ℕ). Contains xs n) c.deref.ensures.value has)

pub group_values-requires-clause-some : goal.group_values-requires-clause-some
group_values-requires-clause-some c = λ row has.
    (let ns = c.in_ok-numbers.numbers.of.items in
    let m = c.in_ok-numbers.numbers.count in
    let rows = numbers_of c.in_ok-rows.rows.items in
    let are = subst (λ (xs : List ℕ). AreRows xs m rows) c.deref.ensures.value c.in_ok-rows.ensures in
    let (n, at) = place_of rows row (subst (λ (rs : List (Vec ℕ Global)). Contains (numbers_of rs) row) c.deref-3.ensures.value has) in
    row_some c.args.conflicts.now ns m rows c.in_ok-numbers.ensures are n row at)

pub group_values-requires-clause-within : goal.group_values-requires-clause-within
group_values-requires-clause-within c = λ row i has in_row.
    (let ns = c.in_ok-numbers.numbers.of.items in
    let m = c.in_ok-numbers.numbers.count in
    let rows = numbers_of c.in_ok-rows.rows.items in
    let are = subst (λ (xs : List ℕ). AreRows xs m rows) c.deref.ensures.value c.in_ok-rows.ensures in
    let (n, at) = place_of rows row (subst (λ (rs : List (Vec ℕ Global)). Contains (numbers_of rs) row) c.deref-3.ensures.value has) in
    row_within c.args.conflicts.now ns m rows c.in_ok-numbers.ensures are n row at i in_row)

pub returns-clause-data : goal.returns-clause-data
returns-clause-data c =
    let cs = c.args.conflicts.now in
    let ss = map standing_of c.args.sources.now in
    let ns = c.in_ok-numbers.numbers.of.items in
    let m = c.in_ok-numbers.numbers.count in
    let rows = numbers_of c.in_ok-rows.rows.items in
    let are = subst (λ (xs : List ℕ). AreRows xs m rows) c.deref.ensures.value c.in_ok-rows.ensures in
    let (gs, all, groups) = c.in_ok-groups.ensures in
    let made = subst (λ (rs : List (Vec ℕ Global)). AllZip (IsRow cs) (numbers_of rs) gs) c.deref-3.ensures.value all in
    let conflicts : map view c.in_ok-told.told.items ≡ map (conflict_data ss) (zip cs ns) =
    c.in_ok-told.ensures ∙ ap (λ (xs : List ℕ). map (conflict_data ss) (zip cs xs)) c.deref-2.ensures.value in
    let answer : List Data → List Data → List ℕ → Data = λ a b s.
    object (member (codes "conflicts") (array (items_of a)) (member (codes "groups") (array (items_of b)) (member (codes "status") (string s) no_members))) in (
      ns,
      gs,
      are_groups cs ns m rows c.in_ok-numbers.ensures are gs made,
      c.in_ok-answer_object.ensures ∙ ap₂ (λ (a b : List Data). answer a b c.status_of.result.now) conflicts groups
          ∙ ap (answer (map (conflict_data ss) (zip cs ns)) _) c.status_of.ensures,
    )

pub returns-clause-whole : goal.returns-clause-whole
returns-clause-whole c =
    let (ns, gs, are, is) = returns-clause-data c in
    ap has_float is ∙ answer_whole (map standing_of c.args.sources.now) c.args.conflicts.now ns gs
