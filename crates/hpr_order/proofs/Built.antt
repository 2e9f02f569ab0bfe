-- The blocks of items that are put one by one, from the last to the first.
use Rattle.std.proofs.Common.{◌≡◌, ℕ, zero, suc, ◌+◌, ◌<◌, ◌≤◌, inl, inr, Bool, true, false, if◌then◌else◌, Some, None, List, [], ◌∷◌, ◌++◌, length, reverse, drop, Contains, slice_get, refl, sym, ap, ◌∙◌, subst, arith}
use Rattle.std.proofs.Math.Seq.{drop-cons}
use Rattle.std.proofs.lemmas.Bool.{cases_Bool}
use Rattle.std.proofs.lemmas.List.{drop_all, reverse-append}
use Rattle.std.proofs.lemmas.Option.{get_or_from_slice_get}
use Rattle.hpr_terms.specs.declared.tag.Tag.{Tag}
use Rattle.hpr_syntax.specs.declared.rows.Content.{Content}
use Rattle.hpr_syntax.specs.declared.tree.Stmt.{Stmt}
use Rattle.hpr_syntax.specs.Body.{Body, done}
use Rattle.hpr_syntax.specs.BodyOf.{body_of, before}
use Rattle.hpr_syntax.specs.Issued.{Issued}
use Rattle.hpr_syntax.specs.Tree.{Tree}
use Rattle.hpr_syntax.specs.Rows.{made}
use Rattle.hpr_syntax.proofs.ByStructure.{same_before}
use Rattle.hpr_forest.proofs.Unique.{in_first, in_later}
use Rattle.hpr_forest.specs.Forest.{IsDistinct}
use Rattle.hpr_forest.specs.Trees.{Slot, same_slot}
use Rattle.hpr_forest.proofs.Grow.{same_slot_true, same_slot_itself}
use Rattle.hpr_order.specs.declared.item.Item.{Item}
use Rattle.hpr_order.specs.declared.building.Pending.{Pending}
use Rattle.hpr_order.specs.Building.{AreBlocks, IsFree, row_at, body_at}
use Rattle.hpr_order.specs.Items.{block_at, program_of, said, with_part}
use Rattle.hpr_order.proofs.ReadBack.{first_second}

reversed : (xs : List Stmt) (s : Stmt) → reverse (xs ++ s ∷ []) ≡ s ∷ reverse xs
reversed xs s = reverse-append xs (s ∷ [])

pub said_made : (t : Tag) (c : Content) (y n : Body) → before (made t c y n) done ≡ said t c y n done
said_made t c y n = refl

before_said : (s : Stmt) (t : Tag) (c : Content) (y n rest : Body) → before s done ≡ said t c y n done → before s rest ≡ said t c y n rest
before_said s t c y n rest is = same_before s (made t c y n) rest is

other_block : (item : ℕ) (v : Slot) → v ≡ Some (item, false) → ¬ (v ≡ Some (item, true))
other_block item v f e = first_second v item item e f

-- the rows before and after an item is put, with its two blocks taken
pub record IsPut (p q : Pending) (item : ℕ) (i : Item) (s : Stmt) : Type 0 where
  pub put : ¬ (i.slot ≡ Some (item, true)) → ¬ (i.slot ≡ Some (item, false)) → row_at q i.slot ≡ row_at p i.slot ++ s ∷ []
  pub rest : (v : Slot) → ¬ (v ≡ i.slot) → ¬ (v ≡ Some (item, true)) → ¬ (v ≡ Some (item, false)) → row_at q v ≡ row_at p v
  pub says : (rest : Body) → before s rest ≡ said i.tag i.content (body_at p (Some (item, true))) (body_at p (Some (item, false))) rest

-- from what the three calls did
pub is_put : (p p1 p2 q : Pending) (item : ℕ) (i : Item) (s : Stmt) (first second : Body) → first ≡ body_at p (Some (item, true)) → ((v : Slot) → ¬ (v ≡ Some (item, true)) → row_at p1 v ≡ row_at p v)
    → second ≡ body_at p1 (Some (item, false)) → ((v : Slot) → ¬ (v ≡ Some (item, false)) → row_at p2 v ≡ row_at p1 v) → before s done ≡ said i.tag i.content first second done
    → row_at q i.slot ≡ row_at p2 i.slot ++ s ∷ [] → ((v : Slot) → ¬ (v ≡ i.slot) → row_at q v ≡ row_at p2 v) → IsPut p q item i s
is_put p p1 p2 q item i s first second is_first keep1 is_second keep2 says put keep = record {
  put = λ t f. put ∙ ap (λ z. z ++ s ∷ []) (keep2 i.slot f ∙ keep1 i.slot t);
  rest = λ v ne t f. keep v ne ∙ keep2 v f ∙ keep1 v t;
  says = λ rest. before_said s i.tag i.content first second rest says
      ∙ ap (λ z. said i.tag i.content z second rest) is_first
      ∙ ap (λ z. said i.tag i.content (body_at p (Some (item, true))) z rest) (is_second ∙ ap (λ z. body_of (reverse z)) (keep1 (Some (item, false)) (other_block item (Some (item, false)) refl)));
}

not_its : (order : List ℕ) (item : ℕ) (b : Bool) (v : Slot) → IsFree (item ∷ order) v → v ≡ Some (item, b) → ⊥
not_its order item b v free e = let f : IsFree (item ∷ order) (Some (item, b)) = subst (IsFree (item ∷ order)) e free in f (in_first item order)

free_less : (order : List ℕ) (item : ℕ) (v : Slot) → IsFree (item ∷ order) v → IsFree order v
free_less order item None free = tt
free_less order item (Some (c, b)) free = λ h. free (in_later item c order h)

pub put_blocks : (items : List Item) (p q : Pending) (item : ℕ) (i : Item) (s : Stmt) (order : List ℕ) → slice_get items item ≡ Some i → item < length items
    → IsPut p q item i s → AreBlocks items order p → ¬ Contains order item → AreBlocks items (item ∷ order) q
put_blocks items p q item i s order at lt is are out v slot free =
    elim (cases_Bool (same_slot i.slot v)) [
      | inl same ↦ (
          let e : i.slot ≡ v = same_slot_true i.slot v same in
          let row : row_at q v ≡ row_at p v ++ s ∷ [] =
          subst (λ z. row_at q z ≡ row_at p z ++ s ∷ []) e (is.put (λ f. not_its order item true v free (sym e ∙ f)) (λ f. not_its order item false v free (sym e ∙ f))) in
          ap (λ z. body_of (reverse z)) row
          ∙ ap body_of (reversed (row_at p v) s)
          ∙ ap (before s) (are v slot (free_less order item v free))
          ∙ is.says (block_at items order v)
          ∙ ap (λ z. said i.tag i.content z (body_at p (Some (item, false))) (block_at items order v)) (are (Some (item, true)) lt out)
          ∙ ap (λ z. said i.tag i.content (block_at items order (Some (item, true))) z (block_at items order v)) (are (Some (item, false)) lt out)
          ∙ sym (its e))
      | inr differ ↦ (
          let ne : ¬ (v ≡ i.slot) = λ e. (let yes' : same_slot i.slot v ≡ true = subst (λ z. same_slot i.slot z ≡ true) (sym e) (same_slot_itself i.slot) in let both : true ≡ false = sym yes' ∙ differ in absurd cc) in
          ap (λ z. body_of (reverse z)) (is.rest v ne (not_its order item true v free) (not_its order item false v free))
          ∙ are v slot (free_less order item v free)
          ∙ sym (other differ))
    ]
  where
    its : i.slot ≡ v → block_at items (item ∷ order) v ≡ said i.tag i.content (block_at items order (Some (item, true))) (block_at items order (Some (item, false))) (block_at items order v)
    its e = ap (λ z. with_part z item (block_at items order) v) at ∙ go (same_slot i.slot v) (subst (λ z. same_slot i.slot z ≡ true) e (same_slot_itself i.slot))
      where
        go : (b : Bool) → b ≡ true → (if b then said i.tag i.content (block_at items order (Some (item, true))) (block_at items order (Some (item, false))) (block_at items order v) else block_at items order v)
            ≡ said i.tag i.content (block_at items order (Some (item, true))) (block_at items order (Some (item, false))) (block_at items order v)
        go true b = refl
        go false b = absurd cc

    other : same_slot i.slot v ≡ false → block_at items (item ∷ order) v ≡ block_at items order v
    other e = ap (λ z. with_part z item (block_at items order) v) at ∙ go (same_slot i.slot v) e
      where
        go : (b : Bool) → b ≡ false → (if b then said i.tag i.content (block_at items order (Some (item, true))) (block_at items order (Some (item, false))) (block_at items order v) else block_at items order v)
            ≡ block_at items order v
        go true b = absurd cc
        go false b = refl

pub distinct_drop : (k : ℕ) (xs : List ℕ) → IsDistinct xs → IsDistinct (drop k xs)
distinct_drop zero xs once = once
distinct_drop (suc k) [] once = tt
distinct_drop (suc k) (x ∷ xs) once = distinct_drop k xs once.1

-- one item more, at the place before
pub drop_more : (order : List ℕ) (at before' : ℕ) (c : ℕ) → before' + 1 ≡ at → at ≤ length order → slice_get order before' ≡ Some c → drop before' order ≡ c ∷ drop at order
drop_more order at before' c e le get =
    drop-cons order before' c (omega arith) ∙ ap (λ z. z ∷ drop (suc before') order) (get_or_from_slice_get order before' c c get) ∙ ap (λ z. c ∷ drop z order) (let f : suc before' ≡ at = omega arith in f)

pub fresh_there : (order : List ℕ) (at before' : ℕ) (c : ℕ) → IsDistinct order → drop before' order ≡ c ∷ drop at order → ¬ Contains (drop at order) c
fresh_there order at before' c once e = (subst IsDistinct e (distinct_drop before' order once)).0

-- nothing is put at the start
pub none_put : (items : List Item) (order : List ℕ) (p : Pending) → ((v : Slot) → row_at p v ≡ []) → AreBlocks items (drop (length order) order) p
none_put items order p none =
    let all : drop (length order) order ≡ [] = drop_all (length order) order (omega arith) in
    subst (λ z. AreBlocks items z p) (sym all) (λ v slot free. ap (λ z. body_of (reverse z)) (none v))

abbrev pub made_of : Issued → Body → List (List ℕ) → Tree
made_of issued body finals = record { issued = issued; body = body; finals = finals }

pub program_by : (items : List Item) (order : List ℕ) (issued given : Issued) (body : Body) (finals xs : List (List ℕ)) → issued ≡ given → body ≡ block_at items order None → finals ≡ xs
    → made_of issued body finals ≡ program_of items given xs order
program_by items order issued given body finals xs is_issued is_body is_finals =
    ap (λ z. made_of z body finals) is_issued ∙ ap (λ z. made_of given z finals) is_body ∙ ap (λ z. made_of given (block_at items order None) z) is_finals
