-- What the rules of due places say by the standing of parts is what the structure of blocks says: first places, and which place a step
-- calls for.
use Rattle.std.proofs.Common.{◌≡◌, ℕ, suc, Bool, true, false, List, [], ◌∷◌, ◌++◌, ◌⊎◌, Some, None, refl, ap, sym, subst, ◌∙◌, inl, inr}
use Rattle.hpr_terms.specs.declared.tag.Tag.{Tag}
use Rattle.hpr_syntax.specs.declared.rows.Content.TheVariants.{While}
use Rattle.hpr_syntax.specs.declared.rows.Structure.{Structure}
use Rattle.hpr_syntax.specs.Action.{Action}
use Rattle.hpr_syntax.specs.Rows.{content_by, Parent}
use Rattle.hpr_syntax.specs.Body.{Body, done, action, branch, loop}
use Rattle.hpr_syntax.specs.Skeleton.{Skeleton, act, fork, round, at, StandsIn, Distinct, skeleton}
use Rattle.hpr_syntax.specs.Nests.{Standing, StandsAs}
use Rattle.hpr_paths.specs.Times.{Place}
use Rattle.hpr_syntax.proofs.ByStructure.{structure_by}
use Rattle.hpr_meaning.specs.Due.{IsRepeated, IsLoop, turns_under, first_turns, Calls}
use Rattle.hpr_paths.proofs.Causes.{IsFirstOnTop, IsCalledBy}
use Rattle.hpr_paths.proofs.PlacesUnder.{IsPlaceUnder, place_stands, same_part, same_turns, place_of, place_after_act, place_at_fork, place_in_yes, place_in_no, place_after_fork, place_at_round, place_in_body, place_after_round}
use Rattle.hpr_paths.proofs.Says.{standing_in}

-- from the structure to the standing
abbrev pub StandsFirst : List Tag → Parent → Body → List ℕ → Place → Type 0
StandsFirst nest up B T σ = (r : Standing) × StandsAs nest up B σ.0 r × (r.parent ≡ up) × (σ.1 ≡ first_turns r.content T)

first_said : (d : Action) (T : List ℕ) → first_turns (content_by d) T ≡ T
first_said d T = ap (λ (s : Structure). turns_under s T) (structure_by d)

no_loop_said : (d : Action) → ¬ IsLoop (content_by d)
no_loop_said d h = subst IsRepeated (structure_by d) h

pub standing_of_first : (B : Body) (T : List ℕ) (nest : List Tag) (up : Parent) (σ : Place) → IsFirstOnTop (skeleton B) 0 T σ → StandsFirst nest up B T σ
standing_of_first done T nest up σ h = absurd h
standing_of_first (action t d rest) T nest up σ (inl q) = (_, inl (same_part q, refl), refl, same_turns q ∙ sym (first_said d T))
standing_of_first (action t d rest) T nest up σ (inr h) = let g = standing_of_first rest T nest up σ h in (g.0, inr g.1, g.2, g.3)
standing_of_first (branch t e a b rest) T nest up σ (inl q) = (_, inl (same_part q, refl), refl, same_turns q)
standing_of_first (branch t e a b rest) T nest up σ (inr h) = let g = standing_of_first rest T nest up σ h in (g.0, inr (inr (inr g.1)), g.2, g.3)
standing_of_first (loop t e b rest) T nest up σ (inl q) = (_, inl (same_part q, refl), refl, same_turns q)
standing_of_first (loop t e b rest) T nest up σ (inr h) = let g = standing_of_first rest T nest up σ h in (g.0, inr (inr g.1), g.2, g.3)

abbrev pub StandsCalled : List Tag → Parent → Body → Place → Place → Bool → Type 0
StandsCalled nest up B σ π v = (r : Standing) × StandsAs nest up B σ.0 r × Calls r σ π v

calls_below : (r : Standing) (σ π : Place) (v w : Bool) (t : Tag) (T : List ℕ) → π ≡ (t, T) → v ≡ w → r.parent ≡ Some (t, w) → σ.1 ≡ first_turns r.content T → Calls r σ π v
calls_below r σ π v w t T e f a q = inl (a ∙ (λ i. Some (same_part (sym e) i, sym f i)), q ∙ ap (first_turns r.content) (same_turns (sym e)))

pub standing_of_called : (B : Body) (T : List ℕ) (nest : List Tag) (up : Parent) (σ π : Place) (v : Bool) → IsCalledBy (skeleton B) T σ π v → StandsCalled nest up B σ π v
standing_of_called done T nest up σ π v h = absurd h
standing_of_called (action t d rest) T nest up σ π v h = let g = standing_of_called rest T nest up σ π v h in (g.0, inr g.1, g.2)
standing_of_called (branch t e a b rest) T nest up σ π v (inl (q, inl h)) =
    let g = standing_of_first a T nest (Some (t, true)) σ h.1 in (g.0, inr (inl g.1), calls_below g.0 σ π v true t T q h.0 g.2 g.3)
standing_of_called (branch t e a b rest) T nest up σ π v (inl (q, inr h)) =
    let g = standing_of_first b T nest (Some (t, false)) σ h.1 in (g.0, inr (inr (inl g.1)), calls_below g.0 σ π v false t T q h.0 g.2 g.3)
standing_of_called (branch t e a b rest) T nest up σ π v (inr (inl h)) = let g = standing_of_called a T nest (Some (t, true)) σ π v h in (g.0, inr (inl g.1), g.2)
standing_of_called (branch t e a b rest) T nest up σ π v (inr (inr (inl h))) = let g = standing_of_called b T nest (Some (t, false)) σ π v h in (g.0, inr (inr (inl g.1)), g.2)
standing_of_called (branch t e a b rest) T nest up σ π v (inr (inr (inr h))) = let g = standing_of_called rest T nest up σ π v h in (g.0, inr (inr (inr g.1)), g.2)
standing_of_called (loop t e b rest) T nest up σ π v (inl (j, q, f, inl h)) =
    let g = standing_of_first b (T ++ (j ∷ [])) (nest ++ (t ∷ [])) (Some (t, true)) σ h in (g.0, inr (inl g.1), calls_below g.0 σ π v true t (T ++ (j ∷ [])) q f g.2 g.3)
standing_of_called (loop t e b rest) T nest up σ π v (inl (j, q, f, inr h)) =
    (record { content = While e; nest = nest ++ (t ∷ []); parent = up }, inl (same_part h, refl), inr (tt, same_part q ∙ sym (same_part h), f, (T, j, same_turns q, same_turns h)))
standing_of_called (loop t e b rest) T nest up σ π v (inr (inl (j, h))) =
    let g = standing_of_called b (T ++ (j ∷ [])) (nest ++ (t ∷ [])) (Some (t, true)) σ π v h in (g.0, inr (inl g.1), g.2)
standing_of_called (loop t e b rest) T nest up σ π v (inr (inr h)) = let g = standing_of_called rest T nest up σ π v h in (g.0, inr (inr g.1), g.2)

-- from the standing to the structure
-- what is right around a part is what is around the block, or a part of the block
abbrev pub ParentIn : Skeleton → Standing → Type 0
ParentIn B r = (w : Tag) × (b : Bool) × (r.parent ≡ Some (w, b)) × StandsIn B (at w)

parent_wider : (B C : Skeleton) (r : Standing) → ((w : Tag) → StandsIn B (at w) → StandsIn C (at w)) → ParentIn B r → ParentIn C r
parent_wider B C r f h = (h.0, h.1, h.2, f h.0 h.3)

parent_either : (B C : Skeleton) (r : Standing) (t : Tag) (y : Bool) → StandsIn C (at t) → ((w : Tag) → StandsIn B (at w) → StandsIn C (at w)) → (r.parent ≡ Some (t, y)) ⊎ ParentIn B r → ParentIn C r
parent_either B C r t y i f (inl e) = (t, y, e, i)
parent_either B C r t y i f (inr h) = parent_wider B C r f h

either_wider : (B C : Skeleton) (r : Standing) (up : Parent) → ((w : Tag) → StandsIn B (at w) → StandsIn C (at w)) → (r.parent ≡ up) ⊎ ParentIn B r → (r.parent ≡ up) ⊎ ParentIn C r
either_wider B C r up f (inl e) = inl e
either_wider B C r up f (inr h) = inr (parent_wider B C r f h)

pub parent_in : (B : Body) (nest : List Tag) (up : Parent) (v : Tag) (r : Standing) → StandsAs nest up B v r → (r.parent ≡ up) ⊎ ParentIn (skeleton B) r
parent_in done nest up v r h = absurd h
parent_in (action t d rest) nest up v r (inl h) = inl (ap (λ (q : Standing). q.parent) h.1)
parent_in (action t d rest) nest up v r (inr h) = either_wider (skeleton rest) (act t (skeleton rest)) r up (λ w i. inr i) (parent_in rest nest up v r h)
parent_in (branch t e a b rest) nest up v r (inl h) = inl (ap (λ (q : Standing). q.parent) h.1)
parent_in (branch t e a b rest) nest up v r (inr (inl h)) =
    inr (parent_either (skeleton a) (fork t (skeleton a) (skeleton b) (skeleton rest)) r t true (inl refl) (λ w i. inr (inl i)) (parent_in a nest (Some (t, true)) v r h))
parent_in (branch t e a b rest) nest up v r (inr (inr (inl h))) =
    inr (parent_either (skeleton b) (fork t (skeleton a) (skeleton b) (skeleton rest)) r t false (inl refl) (λ w i. inr (inr (inl i))) (parent_in b nest (Some (t, false)) v r h))
parent_in (branch t e a b rest) nest up v r (inr (inr (inr h))) =
    either_wider (skeleton rest) (fork t (skeleton a) (skeleton b) (skeleton rest)) r up (λ w i. inr (inr (inr i))) (parent_in rest nest up v r h)
parent_in (loop t e b rest) nest up v r (inl h) = inl (ap (λ (q : Standing). q.parent) h.1)
parent_in (loop t e b rest) nest up v r (inr (inl h)) =
    inr (parent_either (skeleton b) (round t (skeleton b) (skeleton rest)) r t true (inl refl) (λ w i. inr (inl i)) (parent_in b (nest ++ (t ∷ [])) (Some (t, true)) v r h))
parent_in (loop t e b rest) nest up v r (inr (inr h)) =
    either_wider (skeleton rest) (round t (skeleton b) (skeleton rest)) r up (λ w i. inr (inr i)) (parent_in rest nest up v r h)

-- what is around the block isn't in it
abbrev pub ParentOutside : Parent → Skeleton → Type 0
ParentOutside up B = (w : Tag) (y : Bool) → up ≡ Some (w, y) → ¬ StandsIn B (at w)

abbrev tag_of_or : Parent → Tag → Tag
tag_of_or (Some h) t = h.0
tag_of_or None t = t

abbrev label_or : Parent → Bool → Bool
label_or (Some h) b = h.1
label_or None b = b

some_tag : {t u : Tag} {y z : Bool} → ◌≡◌ {A = Parent} (Some (t, y)) (Some (u, z)) → t ≡ u
some_tag {t = t} e = ap (λ o. tag_of_or o t) e

some_label : {t u : Tag} {y z : Bool} → ◌≡◌ {A = Parent} (Some (t, y)) (Some (u, z)) → y ≡ z
some_label {y = y} e = ap (λ o. label_or o y) e

outside_of : (B : Skeleton) (t : Tag) (y : Bool) → ¬ StandsIn B (at t) → ParentOutside (Some (t, y)) B
outside_of B t y n w z e i = n (subst (λ v. StandsIn B (at v)) (sym (some_tag e)) i)

-- what is around the whole isn't right around a part of a block inside
not_above : (B C : Skeleton) (r : Standing) (up : Parent) (t : Tag) (y : Bool) → ParentOutside up C → StandsIn C (at t) → ((w : Tag) → StandsIn B (at w) → StandsIn C (at w))
    → (r.parent ≡ Some (t, y)) ⊎ ParentIn B r → r.parent ≡ up → ⊥
not_above B C r up t y o i f h e = let g = parent_either B C r t y i f h in o g.0 g.1 (sym e ∙ g.2) g.3

outside_of_rest : (B C : Skeleton) (up : Parent) → ParentOutside up C → ((w : Tag) → StandsIn B (at w) → StandsIn C (at w)) → ParentOutside up B
outside_of_rest B C up o f w y e i = o w y e (f w i)

pub first_of_standing : (B : Body) (T : List ℕ) (nest : List Tag) (up : Parent) (σ : Place) (r : Standing) → StandsAs nest up B σ.0 r → ParentOutside up (skeleton B)
    → r.parent ≡ up → σ.1 ≡ first_turns r.content T → IsFirstOnTop (skeleton B) 0 T σ
first_of_standing done T nest up σ r h o a q = absurd h
first_of_standing (action t d rest) T nest up σ r (inl h) o a q = inl (place_of h.0 (q ∙ (ap (λ (y : Standing). first_turns y.content T) h.1 ∙ first_said d T)))
first_of_standing (action t d rest) T nest up σ r (inr h) o a q = inr (first_of_standing rest T nest up σ r h (outside_of_rest (skeleton rest) (act t (skeleton rest)) up o (λ w i. inr i)) a q)
first_of_standing (branch t e a b rest) T nest up σ r (inl h) o u q = inl (place_of h.0 (q ∙ ap (λ (y : Standing). first_turns y.content T) h.1))
first_of_standing (branch t e a b rest) T nest up σ r (inr (inl h)) o u q =
    absurd (not_above (skeleton a) (fork t (skeleton a) (skeleton b) (skeleton rest)) r up t true o (inl refl) (λ w i. inr (inl i)) (parent_in a nest (Some (t, true)) σ.0 r h) u)
first_of_standing (branch t e a b rest) T nest up σ r (inr (inr (inl h))) o u q =
    absurd (not_above (skeleton b) (fork t (skeleton a) (skeleton b) (skeleton rest)) r up t false o (inl refl) (λ w i. inr (inr (inl i))) (parent_in b nest (Some (t, false)) σ.0 r h) u)
first_of_standing (branch t e a b rest) T nest up σ r (inr (inr (inr h))) o u q =
    inr (first_of_standing rest T nest up σ r h (outside_of_rest (skeleton rest) (fork t (skeleton a) (skeleton b) (skeleton rest)) up o (λ w i. inr (inr (inr i)))) u q)
first_of_standing (loop t e b rest) T nest up σ r (inl h) o u q = inl (place_of h.0 (q ∙ ap (λ (y : Standing). first_turns y.content T) h.1))
first_of_standing (loop t e b rest) T nest up σ r (inr (inl h)) o u q =
    absurd (not_above (skeleton b) (round t (skeleton b) (skeleton rest)) r up t true o (inl refl) (λ w i. inr (inl i)) (parent_in b (nest ++ (t ∷ [])) (Some (t, true)) σ.0 r h) u)
first_of_standing (loop t e b rest) T nest up σ r (inr (inr h)) o u q =
    inr (first_of_standing rest T nest up σ r h (outside_of_rest (skeleton rest) (round t (skeleton b) (skeleton rest)) up o (λ w i. inr (inr i))) u q)

-- the last of some turns, and those before it
abbrev last_or : ℕ → List ℕ → ℕ
last_or d [] = d
last_or d (x ∷ xs) = last_or x xs

last_of_push : (d : ℕ) (T : List ℕ) (k : ℕ) → last_or d (T ++ (k ∷ [])) ≡ k
last_of_push d [] k = refl
last_of_push d (x ∷ T) k = last_of_push x T k

abbrev but_last : ℕ → List ℕ → List ℕ
but_last d [] = []
but_last d (x ∷ xs) = d ∷ but_last x xs

abbrev front_of : List ℕ → List ℕ
front_of [] = []
front_of (x ∷ xs) = but_last x xs

but_last_of_push : (d : ℕ) (T : List ℕ) (k : ℕ) → but_last d (T ++ (k ∷ [])) ≡ d ∷ T
but_last_of_push d [] k = refl
but_last_of_push d (x ∷ T) k = ap (λ l. d ∷ l) (but_last_of_push x T k)

front_of_push : (T : List ℕ) (k : ℕ) → front_of (T ++ (k ∷ [])) ≡ T
front_of_push [] k = refl
front_of_push (x ∷ T) k = but_last_of_push x T k

pub same_front : (T U : List ℕ) (j k : ℕ) → T ++ (j ∷ []) ≡ U ++ (k ∷ []) → T ≡ U
same_front T U j k e = sym (front_of_push T j) ∙ (ap front_of e ∙ front_of_push U k)

pub same_last : (T U : List ℕ) (j k : ℕ) → T ++ (j ∷ []) ≡ U ++ (k ∷ []) → j ≡ k
same_last T U j k e = sym (last_of_push 0 T j) ∙ (ap (last_or 0) e ∙ last_of_push 0 U k)

-- what calls for a place of a block inside is the part right around that block, or stands in it
caller_inside : (B : Skeleton) (r : Standing) (σ π : Place) (v y : Bool) (t : Tag) → StandsIn B (at σ.0) → (r.parent ≡ Some (t, y)) ⊎ ParentIn B r → Calls r σ π v
    → ((π.0 ≡ t) × (v ≡ y) × (r.parent ≡ Some (t, y)) × (σ.1 ≡ first_turns r.content π.1)) ⊎ StandsIn B (at π.0)
caller_inside B r σ π v y t i (inl a) (inl c) = inl (some_tag (sym c.0 ∙ a), some_label (sym c.0 ∙ a), a, c.1)
caller_inside B r σ π v y t i (inr a) (inl c) = inr (subst (λ w. StandsIn B (at w)) (some_tag (sym a.2 ∙ c.0)) a.3)
caller_inside B r σ π v y t i a (inr c) = inr (subst (λ w. StandsIn B (at w)) (sym c.1) i)

caller_in_rest : (B C : Skeleton) (r : Standing) (up : Parent) (σ π : Place) (v : Bool) → StandsIn B (at σ.0) → ParentOutside up C → StandsIn C (at π.0)
    → (r.parent ≡ up) ⊎ ParentIn B r → Calls r σ π v → StandsIn B (at π.0)
caller_in_rest B C r up σ π v i o p (inl a) (inl c) = absurd (o π.0 v (sym a ∙ c.0) p)
caller_in_rest B C r up σ π v i o p (inr a) (inl c) = subst (λ w. StandsIn B (at w)) (some_tag (sym a.2 ∙ c.0)) a.3
caller_in_rest B C r up σ π v i o p a (inr c) = subst (λ w. StandsIn B (at w)) (sym c.1) i

no_caller : {A : Type 0} (C : Skeleton) (r : Standing) (up : Parent) (σ π : Place) (v : Bool) → ParentOutside up C → StandsIn C (at π.0) → r.parent ≡ up → ¬ IsLoop r.content → Calls r σ π v → A
no_caller C r up σ π v o p a n (inl c) = absurd (o π.0 v (sym a ∙ c.0) p)
no_caller C r up σ π v o p a n (inr c) = absurd (n c.0)

pub called_of_standing : (B : Body) (T : List ℕ) (nest : List Tag) (up : Parent) (σ π : Place) (v : Bool) (r : Standing) → Distinct (skeleton B) → ParentOutside up (skeleton B)
    → StandsAs nest up B σ.0 r → IsPlaceUnder (skeleton B) T π → Calls r σ π v → IsCalledBy (skeleton B) T σ π v
called_of_standing done T nest up σ π v r di o h p c = absurd h
called_of_standing (action t d rest) T nest up σ π v r di o (inl h) p c =
    no_caller (act t (skeleton rest)) r up σ π v o (place_stands (act t (skeleton rest)) T π p) (ap (λ (q : Standing). q.parent) h.1) (subst (λ (q : Standing). ¬ IsLoop q.content) (sym h.1) (no_loop_said d)) c
called_of_standing (action t d rest) T nest up σ π v r di o (inr h) p c =
    let i = caller_in_rest (skeleton rest) (act t (skeleton rest)) r up σ π v (standing_in rest nest up σ.0 r h) o (place_stands (act t (skeleton rest)) T π p) (parent_in rest nest up σ.0 r h) c in
    called_of_standing rest T nest up σ π v r di.1 (outside_of_rest (skeleton rest) (act t (skeleton rest)) up o (λ w j. inr j)) h (place_after_act t (skeleton rest) T π di p i) c
called_of_standing (branch t e a b rest) T nest up σ π v r di o (inl h) p c =
    no_caller (fork t (skeleton a) (skeleton b) (skeleton rest)) r up σ π v o (place_stands (fork t (skeleton a) (skeleton b) (skeleton rest)) T π p) (ap (λ (q : Standing). q.parent) h.1)
    (subst (λ (q : Standing). ¬ IsLoop q.content) (sym h.1) (λ z. z)) c
called_of_standing (branch t e a b rest) T nest up σ π v r di o (inr (inl h)) p c =
    go (λ i. called_of_standing a T nest (Some (t, true)) σ π v r di.6 (outside_of (skeleton a) t true di.0) h (place_in_yes t (skeleton a) (skeleton b) (skeleton rest) T π di p i) c)
    (caller_inside (skeleton a) r σ π v true t (standing_in a nest (Some (t, true)) σ.0 r h) (parent_in a nest (Some (t, true)) σ.0 r h) c)
  where
    go : (StandsIn (skeleton a) (at π.0) → IsCalledBy (skeleton a) T σ π v)
        → ((π.0 ≡ t) × (v ≡ true) × (r.parent ≡ Some (t, true)) × (σ.1 ≡ first_turns r.content π.1)) ⊎ StandsIn (skeleton a) (at π.0) → IsCalledBy (fork t (skeleton a) (skeleton b) (skeleton rest)) T σ π v
    go f (inl g) =
        let q = place_at_fork t (skeleton a) (skeleton b) (skeleton rest) T π di p g.0 in
        inl (q, inl (g.1, first_of_standing a T nest (Some (t, true)) σ r h (outside_of (skeleton a) t true di.0) g.2 (g.3 ∙ ap (first_turns r.content) (same_turns q))))
    go f (inr i) = inr (inl (f i))
called_of_standing (branch t e a b rest) T nest up σ π v r di o (inr (inr (inl h))) p c =
    go (λ i. called_of_standing b T nest (Some (t, false)) σ π v r di.7 (outside_of (skeleton b) t false di.1) h (place_in_no t (skeleton a) (skeleton b) (skeleton rest) T π di p i) c)
    (caller_inside (skeleton b) r σ π v false t (standing_in b nest (Some (t, false)) σ.0 r h) (parent_in b nest (Some (t, false)) σ.0 r h) c)
  where
    go : (StandsIn (skeleton b) (at π.0) → IsCalledBy (skeleton b) T σ π v)
        → ((π.0 ≡ t) × (v ≡ false) × (r.parent ≡ Some (t, false)) × (σ.1 ≡ first_turns r.content π.1)) ⊎ StandsIn (skeleton b) (at π.0) → IsCalledBy (fork t (skeleton a) (skeleton b) (skeleton rest)) T σ π v
    go f (inl g) =
        let q = place_at_fork t (skeleton a) (skeleton b) (skeleton rest) T π di p g.0 in
        inl (q, inr (g.1, first_of_standing b T nest (Some (t, false)) σ r h (outside_of (skeleton b) t false di.1) g.2 (g.3 ∙ ap (first_turns r.content) (same_turns q))))
    go f (inr i) = inr (inr (inl (f i)))
called_of_standing (branch t e a b rest) T nest up σ π v r di o (inr (inr (inr h))) p c =
    let i = caller_in_rest (skeleton rest) (fork t (skeleton a) (skeleton b) (skeleton rest)) r up σ π v (standing_in rest nest up σ.0 r h) o (place_stands (fork t (skeleton a) (skeleton b) (skeleton rest)) T π p) (parent_in rest nest up σ.0 r h) c in
    inr (inr (inr (called_of_standing rest T nest up σ π v r di.8 (outside_of_rest (skeleton rest) (fork t (skeleton a) (skeleton b) (skeleton rest)) up o (λ w j. inr (inr (inr j)))) h
    (place_after_fork t (skeleton a) (skeleton b) (skeleton rest) T π di p i) c)))
called_of_standing (loop t e b rest) T nest up σ π v r di o (inl h) p (inl c) = absurd (o π.0 v (sym (ap (λ (q : Standing). q.parent) h.1) ∙ c.0) (place_stands (round t (skeleton b) (skeleton rest)) T π p))
called_of_standing (loop t e b rest) T nest up σ π v r di o (inl h) p (inr (l, q, y, (U, k, m, n))) =
    let g = place_at_round t (skeleton b) (skeleton rest) T π di p (q ∙ h.0) in
    let s = sym (same_turns g.1) ∙ m in
    let a = sym (same_front T U g.0 k s) in
    let b = sym (same_last T U g.0 k s) in
    inl (g.0, g.1, y, inr (place_of h.0 (n ∙ (λ i. a i ++ (suc (b i) ∷ [])))))
called_of_standing (loop t e b rest) T nest up σ π v r di o (inr (inl h)) p c =
    go (λ i. let s = place_in_body t (skeleton b) (skeleton rest) T π di p i in (s.0, called_of_standing b (T ++ (s.0 ∷ [])) (nest ++ (t ∷ [])) (Some (t, true)) σ π v r di.3 (outside_of (skeleton b) t true di.0) h s.1 c))
    (caller_inside (skeleton b) r σ π v true t (standing_in b (nest ++ (t ∷ [])) (Some (t, true)) σ.0 r h) (parent_in b (nest ++ (t ∷ [])) (Some (t, true)) σ.0 r h) c)
  where
    go : (StandsIn (skeleton b) (at π.0) → (j : ℕ) × IsCalledBy (skeleton b) (T ++ (j ∷ [])) σ π v)
        → ((π.0 ≡ t) × (v ≡ true) × (r.parent ≡ Some (t, true)) × (σ.1 ≡ first_turns r.content π.1)) ⊎ StandsIn (skeleton b) (at π.0) → IsCalledBy (round t (skeleton b) (skeleton rest)) T σ π v
    go f (inl g) =
        let q = place_at_round t (skeleton b) (skeleton rest) T π di p g.0 in
        inl (q.0, q.1, g.1, inl (first_of_standing b (T ++ (q.0 ∷ [])) (nest ++ (t ∷ [])) (Some (t, true)) σ r h (outside_of (skeleton b) t true di.0) g.2 (g.3 ∙ ap (first_turns r.content) (same_turns q.1))))
    go f (inr i) = inr (inl (f i))
called_of_standing (loop t e b rest) T nest up σ π v r di o (inr (inr h)) p c =
    let i = caller_in_rest (skeleton rest) (round t (skeleton b) (skeleton rest)) r up σ π v (standing_in rest nest up σ.0 r h) o (place_stands (round t (skeleton b) (skeleton rest)) T π p) (parent_in rest nest up σ.0 r h) c in
    inr (inr (called_of_standing rest T nest up σ π v r di.4 (outside_of_rest (skeleton rest) (round t (skeleton b) (skeleton rest)) up o (λ w j. inr (inr j))) h
    (place_after_round t (skeleton b) (skeleton rest) T π di p i) c))
