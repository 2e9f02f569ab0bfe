-- No name stands twice among names in order.
use Rattle.std.proofs.Common.{◌≡◌, ℕ, ◌<◌, List, length, get_or, inl, inr, ap, ◌∙◌}
use Rattle.std.specs.List.Sorted.{IsStrictlySortedBy}
use Rattle.std.specs.Cmp.Lexicographic.{slice_cmp}
use Rattle.std.specs.Ordering.{nat_cmp}
use Rattle.std.specs.declared.cmp.Ordering.TheVariants.{Less, Equal}
use Rattle.std.proofs.lemmas.Bool.{cases_order}
use Rattle.std.proofs.lemmas.Cmp.{nat_list_cmp_total, tied_itself}
use Rattle.std.proofs.lemmas.Map.Keys.{Less-from_sorted}
use Rattle.std.proofs.lemmas.Option.{slice_get_within, get_or_from_slice_get}
use Rattle.hpr_graph.specs.Graphs.{IsOnce}

less_than_itself : (a b x : List ℕ) → a ≡ x → b ≡ x → ¬ (slice_cmp nat_cmp a b ≡ Less)
less_than_itself a b x e f less =
    let tied : slice_cmp nat_cmp x x ≡ Equal = tied_itself nat_list_cmp_total x in
    let same : slice_cmp nat_cmp a b ≡ slice_cmp nat_cmp x x = ap (λ (y : List ℕ). slice_cmp nat_cmp y b) e ∙ ap (slice_cmp nat_cmp x) f in
    cc

-- no name stands twice
pub names_once : (xs : List (List ℕ)) → IsStrictlySortedBy (slice_cmp nat_cmp) xs → IsOnce xs
names_once xs sorted i j x a b =
    let li : i < length xs = slice_get_within xs i x a in
    let lj : j < length xs = slice_get_within xs j x b in
    let ei : get_or xs i x ≡ x = get_or_from_slice_get xs i x x a in
    let ej : get_or xs j x ≡ x = get_or_from_slice_get xs j x x b in
    elim (cases_order i j) [
      | inl e ↦ e
      | inr ne ↦ elim ne [
        | inl l ↦ absurd (less_than_itself (get_or xs i x) (get_or xs j x) x ei ej (Less-from_sorted (slice_cmp nat_cmp) xs i j x sorted l lj))
        | inr l ↦ absurd (less_than_itself (get_or xs j x) (get_or xs i x) x ej ei (Less-from_sorted (slice_cmp nat_cmp) xs j i x sorted l li))
      ]
    ]
