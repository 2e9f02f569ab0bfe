-- What holds of the points of every program.
use Rattle.std.proofs.Common.{◌≡◌, ◌<◌, ◌≤◌, ◌+◌, ◌↔◌, ℕ, zero, suc, true, ◌⊎◌, inl, inr, Option, Some, None, List, [], ◌∷◌, ◌++◌, length, take, refl, sym, ap, ◌∙◌, subst, arith}
use Rattle.std.specs.List.{slice_get, Contains}
use Rattle.std.specs.Option.{option_and_then}
use Rattle.std.proofs.lemmas.Option.{same_Some, slice_get_within, slice_get-get_or}
use Rattle.std.proofs.lemmas.List.{take-append-le, take_all}
use Rattle.std.proofs.lemmas.List.Elements.{All-contains_itself, All-weaker}
use Rattle.hpr_terms.specs.declared.tag.Tag.{Tag}
use Rattle.hpr_syntax.specs.declared.rows.Content.{Content}
use Rattle.hpr_syntax.specs.Body.{Body, done, action, branch, loop, part_count}
use Rattle.hpr_syntax.specs.Tree.{Tree}
use Rattle.hpr_paths.specs.declared.spot.Step.{Step}
use Rattle.hpr_paths.specs.Spots.{part, Spot, tag_of, loops_of, tag_at, next_at, nest_at, IsLoopAt}
use Rattle.hpr_paths.specs.Successors.{AreSpots, first_step, spots_of, spots}
use Rattle.hpr_paths.proofs.Placed.{HasAt, has_low, has_high}
use Rattle.hpr_paths.proofs.Stands.{SpotIn, WholeIn, has_of_in, count_spots, count_whole, end_of, whole_of_get}
use Rattle.hpr_paths.proofs.Names.{Holds, role_of_get, get_of_role}
use Rattle.hpr_paths.proofs.Whole.{holds_whole, step_leads}

-- a nest, from the outermost loop on
abbrev pub Chained : List Spot → List ℕ → Type 0
Chained S w = (i v : ℕ) → slice_get w i ≡ Some v → IsLoopAt S v × (nest_at S v ≡ take (i + 1) w)

get_append : (w : List ℕ) (n i v : ℕ) → slice_get (w ++ n ∷ []) i ≡ Some v → ((slice_get w i ≡ Some v) × (i + 1 ≤ length w)) ⊎ ((i ≡ length w) × (v ≡ n))
get_append [] n zero v h = inr (refl, sym (same_Some n v h))
get_append [] n (suc i) v h = absurd cc
get_append (x ∷ w) n zero v h = inl (h, omega arith)
get_append (x ∷ w) n (suc i) v h = elim (get_append w n i v h) [ inl a ↦ inl (a.0, omega (arith, a.1)) | inr b ↦ inr (omega (arith, b.0), b.1) ]

length_more : (w : List ℕ) (n : ℕ) → length (w ++ n ∷ []) ≡ length w + 1
length_more [] n = refl
length_more (x ∷ w) n = omega (arith, length_more w n)

chained_more : (S : List Spot) (w : List ℕ) (n : ℕ) → Chained S w → IsLoopAt S n → nest_at S n ≡ w ++ n ∷ [] → Chained S (w ++ n ∷ [])
chained_more S w n chain is_loop nest i v h = elim (get_append w n i v h) [
  | inl a ↦ (let c = chain i v a.0 in (c.0, c.1 ∙ sym (take-append-le (i + 1) w (n ∷ []) a.1)))
  | inr b ↦ (let P : ℕ → Type 0 = λ u. IsLoopAt S u × (nest_at S u ≡ take (i + 1) (w ++ n ∷ [])) in
      subst P (sym b.1) (is_loop, nest ∙ sym (take_all (i + 1) (w ++ n ∷ []) (omega (arith, length_more w n, b.0)))))
]

at_loop : (S : List Spot) (t : Tag) (e : _) (b rest : Body) (n : ℕ) (f : Step) (w : List ℕ) → Holds S (loop t e b rest) n f w → Chained S w → Chained S (w ++ n ∷ [])
at_loop S t e b rest n f w holds chain =
    let get = holds n _ (inl (refl, refl)) in
    chained_more S w n chain (t, e, role_of_get S n _ get) (ap loops_of get)

pub nest_chained : (S : List Spot) (b : Body) (n : ℕ) (f : Step) (w : List ℕ) (p : ℕ) (s : Spot) → Holds S b n f w → Chained S w → SpotIn b n f w p s → Chained S s.nest
nest_chained S done n f w p s holds chain h = absurd h
nest_chained S (action t d rest) n f w p s holds chain (inl h) = let P : Spot → Type 0 = λ q. Chained S q.nest in subst P (sym h.1) chain
nest_chained S (action t d rest) n f w p s holds chain (inr h) = nest_chained S rest (n + 1) f w p s (λ p s i. holds p s (inr i)) chain h
nest_chained S (branch t e a b rest) n f w p s holds chain (inl h) = let P : Spot → Type 0 = λ q. Chained S q.nest in subst P (sym h.1) chain
nest_chained S (branch t e a b rest) n f w p s holds chain (inr h) =
    let no : ℕ = n + 1 + part_count a in
    let next : ℕ = no + part_count b in
    let after : Step = first_step rest next f in
    elim h [
      | inl x ↦ nest_chained S a (n + 1) after w p s (λ p s i. holds p s (inr (inl i))) chain x
      | inr k ↦ elim k [
        | inl x ↦ nest_chained S b no after w p s (λ p s i. holds p s (inr (inr (inl i)))) chain x
        | inr x ↦ nest_chained S rest next f w p s (λ p s i. holds p s (inr (inr (inr i)))) chain x
      ]
    ]
nest_chained S (loop t e b rest) n f w p s holds chain (inl h) =
    let P : Spot → Type 0 = λ q. Chained S q.nest in subst P (sym h.1) (at_loop S t e b rest n f w holds chain)
nest_chained S (loop t e b rest) n f w p s holds chain (inr h) =
    let next : ℕ = n + 1 + part_count b in
    let again : Step = record { to = n; back = true } in
    elim h [
      | inl x ↦ nest_chained S b (n + 1) again (w ++ n ∷ []) p s (λ p s i. holds p s (inr (inl i))) (at_loop S t e b rest n f w holds chain) x
      | inr x ↦ nest_chained S rest next f w p s (λ p s i. holds p s (inr (inr i))) chain x
    ]

chained_none : (S : List Spot) → Chained S []
chained_none S i v h = absurd cc

whole_chained : (t : Tree) (p : ℕ) (s : Spot) → WholeIn t p s → Chained (spots t) s.nest
whole_chained t p s (inl h) = let P : Spot → Type 0 = λ q. Chained (spots t) q.nest in subst P (sym h.1) (chained_none (spots t))
whole_chained t p s (inr (inl h)) = nest_chained (spots t) t.body 1 (end_of t) [] p s (holds_whole t) (chained_none (spots t)) h
whole_chained t p s (inr (inr h)) = let P : Spot → Type 0 = λ q. Chained (spots t) q.nest in subst P (sym h.1) (chained_none (spots t))

pub chained_at : (t : Tree) (p : ℕ) → Chained (spots t) (nest_at (spots t) p)
chained_at t p = elim (slice_get (spots t) p) as (λ o. slice_get (spots t) p ≡ o → Chained (spots t) (loops_of o)) [
  | None ↦ λ is. chained_none (spots t)
  | Some s ↦ λ is. whole_chained t p s (whole_of_get t p s is)
] refl

-- a part of a block: its role and its number
pub part_in : (b : Body) (n : ℕ) (f : Step) (w : List ℕ) (p : ℕ) (s : Spot) → SpotIn b n f w p s → (t : Tag) × (c : Content) × (s.role ≡ part t c)
part_in done n f w p s h = absurd h
part_in (action t d rest) n f w p s (inl h) = (t, _, ap (λ (q : Spot). q.role) h.1)
part_in (action t d rest) n f w p s (inr h) = part_in rest (n + 1) f w p s h
part_in (branch t e a b rest) n f w p s (inl h) = (t, _, ap (λ (q : Spot). q.role) h.1)
part_in (branch t e a b rest) n f w p s (inr h) =
    let no : ℕ = n + 1 + part_count a in
    let next : ℕ = no + part_count b in
    let after : Step = first_step rest next f in
    elim h [
      | inl x ↦ part_in a (n + 1) after w p s x
      | inr k ↦ elim k [ inl x ↦ part_in b no after w p s x | inr x ↦ part_in rest next f w p s x ]
    ]
part_in (loop t e b rest) n f w p s (inl h) = (t, _, ap (λ (q : Spot). q.role) h.1)
part_in (loop t e b rest) n f w p s (inr h) =
    elim h [
      | inl x ↦ part_in b (n + 1) (record { to = n; back = true }) (w ++ n ∷ []) p s x
      | inr x ↦ part_in rest (n + 1 + part_count b) f w p s x
    ]

pub number_in : (t : Tree) (p : ℕ) (s : Spot) → SpotIn t.body 1 (end_of t) [] p s → (1 ≤ p) × (p < part_count t.body + 1)
number_in t p s h =
    let rows : List Spot = spots_of t.body 1 (end_of t) [] in
    let has : HasAt rows 1 p s = has_of_in t.body 1 (end_of t) [] p s h in
    (has_low rows 1 p s has, omega (arith, has_high rows 1 p s has, count_spots t.body 1 (end_of t) []))

tag_from : (S : List Spot) (p : ℕ) (s : Spot) (o : Option Tag) → slice_get S p ≡ Some s → tag_of s.role ≡ o → tag_at S p ≡ o
tag_from S p s o get is = ap (option_and_then tag_of) (role_of_get S p s get) ∙ is

ends_at : (t : Tree) (p : ℕ) (s : Spot) → slice_get (spots t) p ≡ Some s → WholeIn t p s → (tag_at (spots t) p ≡ None) ↔ ((p ≡ 0) ⊎ (p + 1 ≡ length (spots t)))
ends_at t p s get (inl h) = (λ _. inl h.0, λ _. tag_from (spots t) p s None get (ap (λ (q : Spot). tag_of q.role) h.1))
ends_at t p s get (inr (inl h)) =
    let g = part_in t.body 1 (end_of t) [] p s h in
    let tag : tag_at (spots t) p ≡ Some g.0 = tag_from (spots t) p s (Some g.0) get (ap tag_of g.2) in
    let k = number_in t p s h in
    let size : length (spots t) ≡ part_count t.body + 2 = count_whole t in (
      λ none. absurd (let no : Some g.0 ≡ None = sym tag ∙ none in cc),
      λ e. absurd (elim e [ inl z ↦ omega (arith, z, k.0) | inr z ↦ omega (arith, z, k.1, size) ]),
    )
ends_at t p s get (inr (inr h)) =
    let size : length (spots t) ≡ part_count t.body + 2 = count_whole t in
    (λ _. inr (omega (arith, h.0, size)), λ _. tag_from (spots t) p s None get (ap (λ (q : Spot). tag_of q.role) h.1))

pub get_below : (S : List Spot) (p : ℕ) → p < length S → (s : Spot) × (slice_get S p ≡ Some s)
get_below [] p l = absurd (omega arith)
get_below (x ∷ xs) zero l = (x, refl)
get_below (x ∷ xs) (suc p) l = get_below xs p (omega arith)

pub are_spots : (t : Tree) → AreSpots (spots t)
are_spots t = record {
  two = omega (arith, count_whole t);
  ends = λ p l. (let g = get_below (spots t) p l in ends_at t p g.0 g.1 (whole_of_get t p g.0 g.1));
  within = λ p. All-weaker (Contains (next_at (spots t) p)) (λ st. st.to < length (spots t))
      (λ st c. (let y = step_leads t p st c in let g = get_of_role (spots t) st.to y.1.0 y.1.1 in slice_get_within (spots t) st.to g.0 g.1))
      (next_at (spots t) p) (All-contains_itself (next_at (spots t) p));
  loops = λ p k d l. (chained_at t p k _ (slice_get-get_or (nest_at (spots t) p) k d l)).0;
  chain = λ p i w h. (chained_at t p i w h).1;
}
