-- The number of loops around two parts, by their nests and by the structure of blocks.
use Rattle.std.proofs.Common.{◌≡◌, ℕ, zero, suc, ◌+◌, Bool, true, false, List, [], ◌∷◌, ◌++◌, ◌⊎◌, Some, length, refl, ap, subst, ◌∙◌, inl, inr, arith, append_assoc, append-nil}
use Rattle.hpr_terms.specs.declared.tag.Tag.{Tag}
use Rattle.hpr_syntax.specs.Parts.{same_tag}
use Rattle.hpr_syntax.specs.Body.{Body, done, action, branch, loop}
use Rattle.hpr_syntax.specs.Skeleton.{Skeleton, round, at, StandsIn, Distinct, skeleton}
use Rattle.hpr_syntax.specs.Nests.{Standing, StandsAs}
use Rattle.hpr_meaning.specs.OrderLaw.{common_loops}
use Rattle.hpr_paths.proofs.Says.{standing_in}
use Rattle.hpr_paths.proofs.TimeOrder.{HaveCommon}
use Rattle.hpr_syntax.specs.Rows.{Parent}
use Rattle.hpr_syntax.proofs.TagLemmas.{same_tag_itself, same_tag_is}

-- the nest of a part of a block is the block's, and then, if there is more, a loop of the kind I
abbrev pub BeginsWith : (Tag → Type 0) → List Tag → List Tag → Type 0
BeginsWith I nest r = (r ≡ nest) ⊎ ((w : Tag) × (more : List Tag) × (r ≡ nest ++ (w ∷ more)) × I w)

wider : (I J : Tag → Type 0) (nest r : List Tag) → ((w : Tag) → I w → J w) → BeginsWith I nest r → BeginsWith J nest r
wider I J nest r f (inl e) = inl e
wider I J nest r f (inr h) = inr (h.0, h.1, h.2, f h.0 h.3)

-- under a further loop t
below : (I J : Tag → Type 0) (nest r : List Tag) (t : Tag) → J t → BeginsWith I (nest ++ (t ∷ [])) r → BeginsWith J nest r
below I J nest r t j (inl e) = inr (t, [], e, j)
below I J nest r t j (inr h) = inr (t, h.0 ∷ h.1, h.2 ∙ append_assoc nest (t ∷ []) (h.0 ∷ h.1), j)

pub nest_begins : (B : Body) (nest : List Tag) (up : Parent) (v : Tag) (r : Standing) → StandsAs nest up B v r → BeginsWith (λ w. StandsIn (skeleton B) (at w)) nest r.nest
nest_begins done nest up v r h = absurd h
nest_begins (action t d rest) nest up v r (inl h) = inl (ap (λ (q : Standing). q.nest) h.1)
nest_begins (action t d rest) nest up v r (inr h) = wider _ _ nest r.nest (λ w i. inr i) (nest_begins rest nest up v r h)
nest_begins (branch t e a b rest) nest up v r (inl h) = inl (ap (λ (q : Standing). q.nest) h.1)
nest_begins (branch t e a b rest) nest up v r (inr (inl h)) = wider _ _ nest r.nest (λ w i. inr (inl i)) (nest_begins a nest (Some (t, true)) v r h)
nest_begins (branch t e a b rest) nest up v r (inr (inr (inl h))) = wider _ _ nest r.nest (λ w i. inr (inr (inl i))) (nest_begins b nest (Some (t, false)) v r h)
nest_begins (branch t e a b rest) nest up v r (inr (inr (inr h))) = wider _ _ nest r.nest (λ w i. inr (inr (inr i))) (nest_begins rest nest up v r h)
nest_begins (loop t e b rest) nest up v r (inl h) = inr (t, [], ap (λ (q : Standing). q.nest) h.1, inl refl)
nest_begins (loop t e b rest) nest up v r (inr (inl h)) = below (λ w. StandsIn (skeleton b) (at w)) (λ w. StandsIn (round t (skeleton b) (skeleton rest)) (at w)) nest r.nest t (inl refl) (nest_begins b (nest ++ (t ∷ [])) (Some (t, true)) v r h)
nest_begins (loop t e b rest) nest up v r (inr (inr h)) = wider _ _ nest r.nest (λ w i. inr (inr i)) (nest_begins rest nest up v r h)

pub common_after : (nest xs ys : List Tag) → common_loops (nest ++ xs) (nest ++ ys) ≡ length nest + common_loops xs ys
common_after [] xs ys = omega arith
common_after (t ∷ nest) xs ys = let a = same_tag_itself t in let e = common_after nest xs ys in rw a (omega (arith, e))

common_differ : (v w : Tag) (vs ws : List Tag) → (v ≡ w → ⊥) → common_loops (v ∷ vs) (w ∷ ws) ≡ zero
common_differ v w vs ws n = go (same_tag v w) refl
  where
    go : (y : Bool) → same_tag v w ≡ y → common_loops (v ∷ vs) (w ∷ ws) ≡ zero
    go true p = absurd (n (same_tag_is v w p))
    go false p = rw p refl

-- nests that part at once
nests_part : (I J : Tag → Type 0) (nest r s : List Tag) → BeginsWith I nest r → BeginsWith J nest s → ((w : Tag) → I w → J w → ⊥) → common_loops r s ≡ length nest + 0
nests_part I J nest r s (inl e) (inl f) n = rw (e, f) (subst (λ (l : List Tag). common_loops l l ≡ length nest + 0) (append-nil nest) (common_after nest [] []))
nests_part I J nest r s (inl e) (inr h) n =
    rw (e, h.2) (subst (λ (l : List Tag). common_loops l (nest ++ (h.0 ∷ h.1)) ≡ length nest + 0) (append-nil nest) (common_after nest [] (h.0 ∷ h.1)))
nests_part I J nest r s (inr g) (inl f) n =
    rw (g.2, f) (subst (λ (l : List Tag). common_loops (nest ++ (g.0 ∷ g.1)) l ≡ length nest + 0) (append-nil nest) (common_after nest (g.0 ∷ g.1) []))
nests_part I J nest r s (inr g) (inr h) n =
    let d : common_loops (g.0 ∷ g.1) (h.0 ∷ h.1) ≡ zero = common_differ g.0 h.0 g.1 h.1 (λ e. n h.0 (subst I e g.3) h.3) in
    rw (g.2, h.2) (common_after nest (g.0 ∷ g.1) (h.0 ∷ h.1) ∙ ap (λ c. length nest + c) d)

first_is_nest : (nest r s : List Tag) (J : Tag → Type 0) → r ≡ nest → BeginsWith J nest s → common_loops r s ≡ length nest + 0
first_is_nest nest r s J e f = nests_part (λ w. ⊥) J nest r s (inl e) f (λ w i j. i)

second_is_nest : (nest r s : List Tag) (J : Tag → Type 0) → BeginsWith J nest r → s ≡ nest → common_loops r s ≡ length nest + 0
second_is_nest nest r s J f e = nests_part J (λ w. ⊥) nest r s f (inl e) (λ w i j. j)

one_deeper : (nest r s : List Tag) (t : Tag) (n : ℕ) → common_loops r s ≡ length (nest ++ (t ∷ [])) + n → common_loops r s ≡ length nest + suc n
one_deeper nest r s t n e = let l : length (nest ++ (t ∷ [])) ≡ length nest + 1 = longer nest in omega (arith, e, l)
  where
    longer : (xs : List Tag) → length (xs ++ (t ∷ [])) ≡ length xs + 1
    longer [] = refl
    longer (x ∷ xs) = let e = longer xs in omega (arith, e)

abbrev AreCounted : Skeleton → List Tag → Tag → Tag → List Tag → List Tag → Type 0
AreCounted B nest v w r s = (c : ℕ) × HaveCommon B (at v) (at w) c × (common_loops r s ≡ length nest + c)

pub loops_counted : (B : Body) (nest : List Tag) (up : Parent) → Distinct (skeleton B) → (v w : Tag) (r s : Standing) → StandsAs nest up B v r → StandsAs nest up B w s
    → AreCounted (skeleton B) nest v w r.nest s.nest
loops_counted done nest up di v w r s h g = absurd h
loops_counted (action t action_ rest) nest up di v w r s (inl h) g =
    (0, inl (inl (ap at h.0, standing_in (action t action_ rest) nest up w s g), refl), first_is_nest nest r.nest s.nest _ (ap (λ (q : Standing). q.nest) h.1) (nest_begins (action t action_ rest) nest up w s g))
loops_counted (action t d rest) nest up di v w r s (inr h) (inl g) =
    (0, inl (inr (inr (standing_in rest nest up v r h), ap at g.0), refl), second_is_nest nest r.nest s.nest _ (nest_begins rest nest up v r h) (ap (λ (q : Standing). q.nest) g.1))
loops_counted (action t d rest) nest up di v w r s (inr h) (inr g) = let n = loops_counted rest nest up di.1 v w r s h g in (n.0, inr n.1, n.2)
loops_counted (branch t e a b rest) nest up di v w r s (inl h) g =
    (0, inl (inl (ap at h.0, standing_in (branch t e a b rest) nest up w s g), refl), first_is_nest nest r.nest s.nest _ (ap (λ (q : Standing). q.nest) h.1) (nest_begins (branch t e a b rest) nest up w s g))
loops_counted (branch t e a b rest) nest up di v w r s (inr h) (inl g) =
    (0, inl (inr (inl (standing_in (branch t e a b rest) nest up v r (inr h), ap at g.0)), refl), second_is_nest nest r.nest s.nest _ (nest_begins (branch t e a b rest) nest up v r (inr h)) (ap (λ (q : Standing). q.nest) g.1))
loops_counted (branch t e a b rest) nest up di v w r s (inr (inl h)) (inr (inl g)) =
    let n = loops_counted a nest (Some (t, true)) di.6 v w r s h g in (n.0, inr (inl n.1), n.2)
loops_counted (branch t e a b rest) nest up di v w r s (inr (inl h)) (inr (inr (inl g))) = (
  0,
  inl (inr (inr (inl (standing_in a nest (Some (t, true)) v r h, inl (standing_in b nest (Some (t, false)) w s g)))), refl),
  nests_part _ _ nest r.nest s.nest (nest_begins a nest (Some (t, true)) v r h) (nest_begins b nest (Some (t, false)) w s g) (λ z i j. di.3 (at z) i j),
)
loops_counted (branch t e a b rest) nest up di v w r s (inr (inl h)) (inr (inr (inr g))) = (
  0,
  inl (inr (inr (inl (standing_in a nest (Some (t, true)) v r h, inr (standing_in rest nest up w s g)))), refl),
  nests_part _ _ nest r.nest s.nest (nest_begins a nest (Some (t, true)) v r h) (nest_begins rest nest up w s g) (λ z i j. di.4 (at z) i j),
)
loops_counted (branch t e a b rest) nest up di v w r s (inr (inr (inl h))) (inr (inl g)) = (
  0,
  inl (inr (inr (inr (inl (standing_in b nest (Some (t, false)) v r h, inl (standing_in a nest (Some (t, true)) w s g))))), refl),
  nests_part _ _ nest r.nest s.nest (nest_begins b nest (Some (t, false)) v r h) (nest_begins a nest (Some (t, true)) w s g) (λ z i j. di.3 (at z) j i),
)
loops_counted (branch t e a b rest) nest up di v w r s (inr (inr (inl h))) (inr (inr (inl g))) =
    let n = loops_counted b nest (Some (t, false)) di.7 v w r s h g in (n.0, inr (inr (inl n.1)), n.2)
loops_counted (branch t e a b rest) nest up di v w r s (inr (inr (inl h))) (inr (inr (inr g))) = (
  0,
  inl (inr (inr (inr (inl (standing_in b nest (Some (t, false)) v r h, inr (standing_in rest nest up w s g))))), refl),
  nests_part _ _ nest r.nest s.nest (nest_begins b nest (Some (t, false)) v r h) (nest_begins rest nest up w s g) (λ z i j. di.5 (at z) i j),
)
loops_counted (branch t e a b rest) nest up di v w r s (inr (inr (inr h))) (inr (inl g)) = (
  0,
  inl (inr (inr (inr (inr (standing_in rest nest up v r h, inl (standing_in a nest (Some (t, true)) w s g))))), refl),
  nests_part _ _ nest r.nest s.nest (nest_begins rest nest up v r h) (nest_begins a nest (Some (t, true)) w s g) (λ z i j. di.4 (at z) j i),
)
loops_counted (branch t e a b rest) nest up di v w r s (inr (inr (inr h))) (inr (inr (inl g))) = (
  0,
  inl (inr (inr (inr (inr (standing_in rest nest up v r h, inr (standing_in b nest (Some (t, false)) w s g))))), refl),
  nests_part _ _ nest r.nest s.nest (nest_begins rest nest up v r h) (nest_begins b nest (Some (t, false)) w s g) (λ z i j. di.5 (at z) j i),
)
loops_counted (branch t e a b rest) nest up di v w r s (inr (inr (inr h))) (inr (inr (inr g))) =
    let n = loops_counted rest nest up di.8 v w r s h g in (n.0, inr (inr (inr n.1)), n.2)
loops_counted (loop t e b rest) nest up di v w r s (inl h) (inl g) =
    let o : r.nest ≡ nest ++ (t ∷ []) = ap (λ (q : Standing). q.nest) h.1 in
    let q : s.nest ≡ nest ++ (t ∷ []) = ap (λ (q : Standing). q.nest) g.1 in
    (1, inr (inl (inl (ap at h.0, inl (ap at g.0)), refl)), one_deeper nest r.nest s.nest t 0 (first_is_nest (nest ++ (t ∷ [])) r.nest s.nest (λ w. ⊥) o (inl q)))
loops_counted (loop t e b rest) nest up di v w r s (inl h) (inr (inl g)) = (
  1,
  inr (inl (inl (ap at h.0, inr (standing_in b (nest ++ (t ∷ [])) (Some (t, true)) w s g)), refl)),
  one_deeper nest r.nest s.nest t 0 (first_is_nest (nest ++ (t ∷ [])) r.nest s.nest _ (ap (λ (q : Standing). q.nest) h.1) (nest_begins b (nest ++ (t ∷ [])) (Some (t, true)) w s g)),
)
loops_counted (loop t e b rest) nest up di v w r s (inr (inl h)) (inl g) = (
  1,
  inr (inl (inr (standing_in b (nest ++ (t ∷ [])) (Some (t, true)) v r h, ap at g.0), refl)),
  one_deeper nest r.nest s.nest t 0 (second_is_nest (nest ++ (t ∷ [])) r.nest s.nest _ (nest_begins b (nest ++ (t ∷ [])) (Some (t, true)) v r h) (ap (λ (q : Standing). q.nest) g.1)),
)
loops_counted (loop t e b rest) nest up di v w r s (inr (inl h)) (inr (inl g)) =
    let n = loops_counted b (nest ++ (t ∷ [])) (Some (t, true)) di.3 v w r s h g in
    (suc n.0, inr (inr (inl (n.0, n.1, refl))), one_deeper nest r.nest s.nest t n.0 n.2)
loops_counted (loop t e b rest) nest up di v w r s (inl h) (inr (inr g)) = (
  0,
  inl (inl (inl (ap at h.0), standing_in rest nest up w s g), refl),
  nests_part (λ z. z ≡ t) _ nest r.nest s.nest (inr (t, [], ap (λ (q : Standing). q.nest) h.1, refl)) (nest_begins rest nest up w s g) (λ z i j. di.1 (subst (λ y. StandsIn (skeleton rest) (at y)) i j)),
)
loops_counted (loop t e b rest) nest up di v w r s (inr (inl h)) (inr (inr g)) = (
  0,
  inl (inl (inr (standing_in b (nest ++ (t ∷ [])) (Some (t, true)) v r h), standing_in rest nest up w s g), refl),
  nests_part (λ z. z ≡ t) _ nest r.nest s.nest (below (λ w. StandsIn (skeleton b) (at w)) (λ z. z ≡ t) nest r.nest t refl (nest_begins b (nest ++ (t ∷ [])) (Some (t, true)) v r h)) (nest_begins rest nest up w s g)
      (λ z i j. di.1 (subst (λ y. StandsIn (skeleton rest) (at y)) i j)),
)
loops_counted (loop t e b rest) nest up di v w r s (inr (inr h)) (inl g) = (
  0,
  inl (inr (standing_in rest nest up v r h, inl (ap at g.0)), refl),
  nests_part _ (λ z. z ≡ t) nest r.nest s.nest (nest_begins rest nest up v r h) (inr (t, [], ap (λ (q : Standing). q.nest) g.1, refl)) (λ z i j. di.1 (subst (λ y. StandsIn (skeleton rest) (at y)) j i)),
)
loops_counted (loop t e b rest) nest up di v w r s (inr (inr h)) (inr (inl g)) = (
  0,
  inl (inr (standing_in rest nest up v r h, inr (standing_in b (nest ++ (t ∷ [])) (Some (t, true)) w s g)), refl),
  nests_part _ (λ z. z ≡ t) nest r.nest s.nest (nest_begins rest nest up v r h) (below (λ w. StandsIn (skeleton b) (at w)) (λ z. z ≡ t) nest s.nest t refl (nest_begins b (nest ++ (t ∷ [])) (Some (t, true)) w s g))
      (λ z i j. di.1 (subst (λ y. StandsIn (skeleton rest) (at y)) j i)),
)
loops_counted (loop t e b rest) nest up di v w r s (inr (inr h)) (inr (inr g)) = let n = loops_counted rest nest up di.4 v w r s h g in (n.0, inr (inr (inr n.1)), n.2)
