-- Names that ascend stand in one order.
use Rattle.std.proofs.Common.{◌≡◌, ℕ, ◌<◌, ◌↔◌, List, length, get_or, Contains, subst, ◌∙◌, ap}
use Rattle.std.specs.Cmp.Lexicographic.{slice_cmp, nat_list_cmp_total}
use Rattle.std.specs.Ordering.{nat_cmp, ordering_reverse}
use Rattle.std.specs.declared.cmp.Ordering.TheVariants.{Less, Greater}
use Rattle.std.specs.List.Sorted.{IsStrictlySortedBy}
use Rattle.std.proofs.lemmas.Cmp.{tied_itself}
use Rattle.std.proofs.lemmas.Map.Keys.{Less-from_sorted}
use Rattle.std.proofs.lemmas.Option.{slice_get_within, get_or_from_slice_get}
use Rattle.hpr_graph.specs.Order.{name_cmp}
use Rattle.hpr_graph.specs.InOrder.{Ascends}
use Rattle.hpr_graph.proofs.PutInOrder.{one_list}

-- names strictly in order ascend
pub names_up : (xs : List (List ℕ)) → IsStrictlySortedBy (slice_cmp nat_cmp) xs → Ascends name_cmp xs
names_up xs s i j x y l a b =
    let within : j < length xs = slice_get_within xs j y b in
    let less : name_cmp (get_or xs i x) (get_or xs j x) ≡ Less = Less-from_sorted (slice_cmp nat_cmp) xs i j x s l within in
    let first : get_or xs i x ≡ x = get_or_from_slice_get xs i x x a in
    let second : get_or xs j x ≡ y = get_or_from_slice_get xs j y x b in
    subst (λ z. name_cmp x z ≡ Less) second (subst (λ z. name_cmp z (get_or xs j x) ≡ Less) first less)

pub never_less : (x : List ℕ) → ¬ (name_cmp x x ≡ Less)
never_less x e = let t = tied_itself nat_list_cmp_total x in absurd cc

pub never_both : (x y : List ℕ) → name_cmp x y ≡ Less → ¬ (name_cmp y x ≡ Less)
never_both x y p q = never_less x (nat_list_cmp_total.trans x y x p q)

pub turned : (x y : List ℕ) → name_cmp x y ≡ Greater → name_cmp y x ≡ Less
turned x y e = nat_list_cmp_total.antisymm y x ∙ ap ordering_reverse e

pub one_order : (xs ys : List (List ℕ)) → Ascends name_cmp xs → Ascends name_cmp ys → ((z : List ℕ) → Contains xs z ↔ Contains ys z) → xs ≡ ys
one_order xs ys up down same = one_list (λ x y. name_cmp x y ≡ Less) never_both xs ys up down same
