-- A search between two of its turns.
use Rattle.std.proofs.Common.{◌≡◌, ℕ, ◌+◌, ◌<◌, ◌≤◌, Bool, ◌≢◌, ◌⊎◌, inl, inr, List, [], ◌∷◌, ◌++◌, All, length, get_or, Contains, refl, sym, ap, subst, ◌∙◌, arith}
use Rattle.std.proofs.lemmas.List.{get_or_append_left, get_or_default, length-append}
use Rattle.std.proofs.lemmas.List.Elements.{Contains-append_left}
use Rattle.hpr_search.specs.Walks.{Walk, IsReached}
use Rattle.hpr_search.specs.Marks.{IsMarked, IsRowOf, Visited}
use Rattle.hpr_search.proofs.Marked.{mark_count-le-length, marked_within, same_or_other}

-- a walk may have one more step at its end
pub walk_more : (steps : ℕ → List ℕ) (a : ℕ) (via : List ℕ) (b c : ℕ) → Walk steps a via b → Contains (steps b) c → Walk steps a (via ++ c ∷ []) c
walk_more steps a [] b c e h = (subst (λ x. Contains (steps x) c) (sym e) h, refl)
walk_more steps a (d ∷ via) b c (h, w) k = (h, walk_more steps d via b c w k)

pub reached_more : (steps : ℕ → List ℕ) (starts : List ℕ) (b c : ℕ) → IsReached steps starts b → Contains (steps b) c → IsReached steps starts c
reached_more steps starts b c (s, via, h, w) k = (s, via ++ c ∷ [], h, walk_more steps s via b c w k)

pub within_marks : (marks : List Bool) (n : ℕ) (ps : List ℕ) → length marks ≡ n → All (λ p. p < n) ps → All (λ p. p < length marks) ps
within_marks marks n ps size within = subst (λ m. All (λ p. p < m) ps) (sym size) within

-- the first `at` points of the list have had their steps listed
pub record Searching (steps : ℕ → List ℕ) (starts : List ℕ) (n at : ℕ) (marks : List Bool) (order : List ℕ) : Type 0 where
  pub size : length marks ≡ n
  pub row : IsRowOf marks order
  pub within : at ≤ length order
  pub begun : (p : ℕ) → Contains starts p → Contains order p
  pub sound : (p : ℕ) → Contains order p → IsReached steps starts p
  pub closed : (i : ℕ) → i < at → (q : ℕ) → Contains (steps (get_or order i 0)) q → Contains order q

module _ (steps : ℕ → List ℕ) (starts : List ℕ) (n : ℕ) where
  pub search_start : (marks : List Bool) (order : List ℕ) → Visited [] starts n marks order → Searching steps starts n 0 marks order
  search_start marks order v = record {
    size = v.size;
    row = v.row;
    within = omega arith;
    begun = v.all;
    sound = λ p h. sound p (v.cases p h);
    closed = λ i l q h. absurd (omega (arith, l));
  }
    where
      sound : (p : ℕ) → Contains [] p ⊎ Contains starts p → IsReached steps starts p
      sound p (inl h) = absurd (omega (arith, h.1))
      sound p (inr h) = (p, [], h, refl)

  module _ (at p : ℕ) (marks : List Bool) (order : List ℕ) (s : Searching steps starts n at marks order) (here : at < length order) (is : p ≡ get_or order at p) where
    p_listed : Contains order p
    p_listed = (at, here, sym is)

    pub search_step : (marks' : List Bool) (order' : List ℕ) → Visited order (steps p) n marks' order' → Searching steps starts n (at + 1) marks' order'
    search_step marks' order' v = record {
      size = v.size;
      row = v.row;
      within = let l = length-append order v.more in omega (arith, here, l, ap length v.kept);
      begun = λ q h. old q (s.begun q h);
      sound = λ q h. sound q (v.cases q h);
      closed = λ i l q h. closed i (same_or_other i at) l q h;
    }
      where
        old : (q : ℕ) → Contains order q → Contains order' q
        old q h = subst (λ o. Contains o q) (sym v.kept) (Contains-append_left order v.more q h)

        sound : (q : ℕ) → Contains order q ⊎ Contains (steps p) q → IsReached steps starts q
        sound q (inl h) = s.sound q h
        sound q (inr h) = reached_more steps starts p q (s.sound p p_listed) h

        kept : (i : ℕ) → i < length order → get_or order' i 0 ≡ get_or order i 0
        kept i l = ap (λ o. get_or o i 0) v.kept ∙ get_or_append_left order v.more 0 i l

        closed : (i : ℕ) → (i ≡ at) ⊎ (i ≢ at) → i < at + 1 → (q : ℕ) → Contains (steps (get_or order' i 0)) q → Contains order' q
        closed i (inl e) l q h =
            let same : get_or order' i 0 ≡ p = kept i (omega (arith, here, e)) ∙ ap (λ k. get_or order k 0) e ∙ get_or_default order at 0 p here ∙ sym is in
            v.all q (subst (λ x. Contains (steps x) q) same h)
        closed i (inr n) l q h =
            let before : i < at = omega (arith, l, n) in
            old q (s.closed i before q (subst (λ x. Contains (steps x) q) (kept i (omega (arith, before, s.within))) h))

  walk_listed : (order : List ℕ) → ((p : ℕ) → Contains order p → (q : ℕ) → Contains (steps p) q → Contains order q) → (a : ℕ) (via : List ℕ) (b : ℕ) → Contains order a → Walk steps a via b → Contains order b
  walk_listed order closed a [] b h e = subst (Contains order) e h
  walk_listed order closed a (c ∷ via) b h (k, w) = walk_listed order closed c via b (closed a h c k) w

  -- where each listed point has had its steps listed, what is reached is marked
  pub search_complete : (at : ℕ) (marks : List Bool) (order : List ℕ) → Searching steps starts n at marks order → length order ≤ at → (p : ℕ) → IsReached steps starts p → IsMarked marks p
  search_complete at marks order s l p (a, via, h, w) = s.row.marked p (walk_listed order closed a via p (s.begun a h) w)
    where
      closed : (q : ℕ) → Contains order q → (r : ℕ) → Contains (steps q) r → Contains order r
      closed q h r k =
          let same : q ≡ get_or order h.0 0 = sym h.2 ∙ get_or_default order h.0 q 0 h.1 in
          s.closed h.0 (omega (arith, l, h.1)) r (subst (λ x. Contains (steps x) r) same k)

  pub listed_within : (at : ℕ) (marks : List Bool) (order : List ℕ) → Searching steps starts n at marks order → length order ≤ n
  listed_within at marks order s = let l = mark_count-le-length marks in omega (arith, l, s.size, s.row.count)

  pub next_within : (at p : ℕ) (marks : List Bool) (order : List ℕ) → Searching steps starts n at marks order → at < length order → p ≡ get_or order at p → p < n
  next_within at p marks order s here is = let l = marked_within marks p (s.row.marked p (at, here, sym is)) in omega (arith, l, s.size)
