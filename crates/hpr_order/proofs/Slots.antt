-- The rows of slots, where one of them got a part more.
use Rattle.std.proofs.Common.{◌≡◌, ℕ, ◌<◌, inl, inr, Bool, true, false, Some, None, [], ◌∷◌, ◌++◌, Vec, Global, Ok, Err, length, get_or, set, vec_len, slice_get, refl, sym, ap, ◌∙◌, subst}
use Rattle.std.specs.Result.{OnOk}
use Rattle.std.specs.Vec.{with_item}
use Rattle.std.specs.declared.result.Result.{Result}
use Rattle.std.proofs.lemmas.Bool.{cases_eq}
use Rattle.std.proofs.lemmas.Option.{slice_get-get_or}
use Rattle.hpr_syntax.specs.declared.tree.Stmt.{Stmt}
use Rattle.hpr_graph.proofs.Lists.{get_set_same, get_set_other}
use Rattle.hpr_forest.specs.Trees.{Slot}
use Rattle.hpr_order.specs.declared.building.Branches.{Branches}
use Rattle.hpr_order.specs.declared.building.Pending.{Pending}
use Rattle.hpr_order.specs.Building.{IsSlot, row_at, row_in}

pub always : {X E : Type 0} {P : Type 0} (r : Result X E) → P → OnOk r P
always (Ok x) p = p
always (Err e) p = tt

abbrev pub with_first : Branches → Vec Stmt Global → Branches
with_first old row = record { first = row; second = old.second }

abbrev pub with_second : Branches → Vec Stmt Global → Branches
with_second old row = record { first = old.first; second = row }

abbrev pub with_branches : Pending → ℕ → Branches → Pending
with_branches p n new = record { top = p.top; branches = with_item p.branches n new }

abbrev pub IsKept : Branches → Branches → Bool → Type 0
IsKept old new b = (f : Bool) → ¬ (f ≡ b) → row_in (Some new) f ≡ row_in (Some old) f

pub second_kept : (old : Branches) (row : Vec Stmt Global) → IsKept old (with_first old row) true
second_kept old row true ne = absurd (ne refl)
second_kept old row false ne = refl

pub first_kept : (old : Branches) (row : Vec Stmt Global) → IsKept old (with_second old row) false
first_kept old row true ne = refl
first_kept old row false ne = absurd (ne refl)

-- the branches `old` of the item n
module _ (p : Pending) (n : ℕ) (b : Bool) (old d : Branches) (lt : n < vec_len p.branches)
    (is : old ≡ get_or p.branches.items n d) where
  within : n < length p.branches.items
  within = subst (λ k. n < k) p.branches.ok.0 lt

  pub row_there : (f : Bool) → row_in (Some old) f ≡ row_at p (Some (n, f))
  row_there f =
      ap (λ o. row_in o f) (ap (λ z. Some z) is ∙ sym (slice_get-get_or p.branches.items n d within))

  pub put_in : (new : Branches) (s : Stmt) → row_in (Some new) b ≡ row_in (Some old) b ++ s ∷ []
      → row_at (with_branches p n new) (Some (n, b)) ≡ row_at p (Some (n, b)) ++ s ∷ []
  put_in new s put =
      ap (λ o. row_in o b) (get_set_same p.branches.items n new within) ∙ put
      ∙ ap (λ row. row ++ s ∷ []) (row_there b)

  pub put_out : (new : Branches) → IsKept old new b
      → (v : Slot) → ¬ (v ≡ Some (n, b)) → row_at (with_branches p n new) v ≡ row_at p v
  put_out new kept None ne = refl
  put_out new kept (Some (c, f)) ne =
      elim (cases_eq c n) [
        | inl same ↦ (
            ap (λ k. row_in (slice_get (set p.branches.items n new) k) f) same
            ∙ ap (λ o. row_in o f) (get_set_same p.branches.items n new within)
            ∙ kept f (λ e. ne (ap (λ k. Some (k, f)) same ∙ ap (λ z. Some (n, z)) e))
            ∙ row_there f
            ∙ ap (λ k. row_in (slice_get p.branches.items k) f) (sym same))
        | inr other ↦ ap (λ o. row_in o f) (get_set_other p.branches.items n c new other)
      ]

-- for the slot by its parts
pub record IsPutAt (p q : Pending) (slot : Slot) (s : Stmt) : Type 0 where
  pub put : row_at q slot ≡ row_at p slot ++ s ∷ []
  pub rest : (v : Slot) → ¬ (v ≡ slot) → row_at q v ≡ row_at p v

pub put_at : (p : Pending) (slot : Slot) (n item : ℕ) (b : Bool) (old new d : Branches) (s : Stmt)
    → n ≡ item → slot ≡ Some (item, b) → IsSlot (vec_len p.branches) slot → old ≡ get_or p.branches.items n d
    → row_in (Some new) b ≡ row_in (Some old) b ++ s ∷ [] → IsKept old new b
    → IsPutAt p (with_branches p n new) slot s
put_at p slot n item b old new d s same is_slot within is put kept =
    let at : slot ≡ Some (n, b) = is_slot ∙ ap (λ k. Some (k, b)) (sym same) in
    let lt : n < vec_len p.branches = subst (IsSlot (vec_len p.branches)) at within in
    subst (λ z. IsPutAt p (with_branches p n new) z s) (sym at)
    (record { put = put_in p n b old d lt is new s put; rest = put_out p n b old d lt is new kept })

-- at the top
abbrev pub with_top : Pending → Vec Stmt Global → Pending
with_top p row = record { top = row; branches = p.branches }

pub put_top : (p : Pending) (slot : Slot) (row : Vec Stmt Global) (s : Stmt) → slot ≡ None
    → row.items ≡ p.top.items ++ s ∷ [] → IsPutAt p (with_top p row) slot s
put_top p slot row s at is =
    subst (λ z. IsPutAt p (with_top p row) z s) (sym at) (record { put = is; rest = go })
  where
    go : (v : Slot) → ¬ (v ≡ None) → row_at (with_top p row) v ≡ row_at p v
    go None ne = absurd (ne refl)
    go (Some (c, f)) ne = refl
