-- The nest of a part is made by the parts around it, one right under the other; and a place has a turn for each loop of its nest.
use Rattle.std.proofs.Common.{◌≡◌, ℕ, suc, ◌+◌, Bool, true, false, List, [], ◌∷◌, ◌++◌, Some, None, length, refl, ap, sym, subst, ◌∙◌, inl, inr, arith, append_assoc, append-nil}
use Rattle.std.proofs.lemmas.List.{length-append}
use Rattle.hpr_terms.specs.declared.tag.Tag.{Tag}
use Rattle.hpr_syntax.specs.declared.rows.Content.{Content}
use Rattle.hpr_syntax.specs.declared.rows.Content.TheVariants.{If, While}
use Rattle.hpr_syntax.specs.declared.rows.Structure.{Structure}
use Rattle.hpr_syntax.specs.declared.rows.Structure.TheVariants.{Simple, Conditional, Loop}
use Rattle.hpr_syntax.specs.Action.{Action}
use Rattle.hpr_syntax.specs.Rows.{content_by, structure_of, Parent}
use Rattle.hpr_syntax.proofs.ByStructure.{structure_by}
use Rattle.hpr_syntax.specs.Body.{Body, done, action, branch, loop}
use Rattle.hpr_syntax.specs.Skeleton.{at, StandsIn, Distinct, skeleton}
use Rattle.hpr_syntax.specs.Nests.{Standing, StandsAs, StandsAsIn}
use Rattle.hpr_paths.specs.Times.{Place}
use Rattle.hpr_paths.proofs.PlacesUnder.{IsPlaceUnder}
use Rattle.hpr_meaning.proofs.CommonLoops.{BeginsWith, nest_begins}
use Rattle.hpr_paths.proofs.Says.{standing_one}

abbrev pub nest_under : Structure → Tag → List Tag → List Tag
nest_under Simple t nest = nest
nest_under Conditional t nest = nest
nest_under Loop t nest = nest ++ (t ∷ [])

abbrev pub own_nest : Content → Tag → List Tag → List Tag
own_nest c t nest = nest_under (structure_of c) t nest

own_said : (d : Action) (t : Tag) (nest : List Tag) → own_nest (content_by d) t nest ≡ nest
own_said d t nest = ap (λ (s : Structure). nest_under s t nest) (structure_by d)

pub data Chain (p : Body) : Tag → List Tag → Type 0 where
  top : {t : Tag} (r : Standing) → StandsAsIn p t r → r.parent ≡ None → Chain p t (own_nest r.content t [])
  below : {t : Tag} {nest : List Tag} (r : Standing) (w : Tag) (b : Bool) → StandsAsIn p t r → r.parent ≡ Some (w, b) → Chain p w nest → Chain p t (own_nest r.content t nest)

abbrev ChainOver : Body → Parent → List Tag → Type 0
ChainOver p None nest = nest ≡ []
ChainOver p (Some h) nest = Chain p h.0 nest

module _ (p : Body) where
  chain_at : (up : Parent) (nest : List Tag) (v : Tag) (r : Standing) → ChainOver p up nest → StandsAsIn p v r → r.parent ≡ up → Chain p v (own_nest r.content v nest)
  chain_at None nest v r u h a = subst (λ n. Chain p v (own_nest r.content v n)) (sym u) (top r h a)
  chain_at (Some y) nest v r u h a = below r y.0 y.1 h a u

  nest_chain : (v : Tag) (r : Standing) (n : List Tag) → Chain p v (own_nest r.content v n) → r.nest ≡ own_nest r.content v n → Chain p v r.nest
  nest_chain v r n c e = subst (Chain p v) (sym e) c

  pub chain_in : (B : Body) (nest : List Tag) (up : Parent) → ((v : Tag) (r : Standing) → StandsAs nest up B v r → StandsAsIn p v r) → ChainOver p up nest
      → (v : Tag) (r : Standing) → StandsAs nest up B v r → Chain p v r.nest
  chain_in done nest up inc u v r h = absurd h
  chain_in (action t d k) nest up inc u v r (inl h) =
      nest_chain v r nest (chain_at up nest v r u (inc v r (inl h)) (ap (λ (q : Standing). q.parent) h.1)) (subst (λ (q : Standing). q.nest ≡ own_nest q.content v nest) (sym h.1) (sym (own_said d v nest)))
  chain_in (action t d k) nest up inc u v r (inr h) = chain_in k nest up (λ v r g. inc v r (inr g)) u v r h
  chain_in (branch t e a b k) nest up inc u v r (inl h) =
      nest_chain v r nest (chain_at up nest v r u (inc v r (inl h)) (ap (λ (q : Standing). q.parent) h.1)) (subst (λ (q : Standing). q.nest ≡ own_nest q.content v nest) (sym h.1) refl)
  chain_in (branch t e a b k) nest up inc u v r (inr (inl h)) =
      chain_in a nest (Some (t, true)) (λ v r g. inc v r (inr (inl g)))
      (chain_at up nest t (record { content = If e; nest = nest; parent = up }) u (inc t _ (inl (refl, refl))) refl) v r h
  chain_in (branch t e a b k) nest up inc u v r (inr (inr (inl h))) =
      chain_in b nest (Some (t, false)) (λ v r g. inc v r (inr (inr (inl g))))
      (chain_at up nest t (record { content = If e; nest = nest; parent = up }) u (inc t _ (inl (refl, refl))) refl) v r h
  chain_in (branch t e a b k) nest up inc u v r (inr (inr (inr h))) = chain_in k nest up (λ v r g. inc v r (inr (inr (inr g)))) u v r h
  chain_in (loop t e b k) nest up inc u v r (inl h) =
      nest_chain v r nest (chain_at up nest v r u (inc v r (inl h)) (ap (λ (q : Standing). q.parent) h.1))
      (subst (λ (q : Standing). q.nest ≡ own_nest q.content v nest) (sym h.1) (ap (λ z. nest ++ (z ∷ [])) (sym h.0)))
  chain_in (loop t e b k) nest up inc u v r (inr (inl h)) =
      chain_in b (nest ++ (t ∷ [])) (Some (t, true)) (λ v r g. inc v r (inr (inl g)))
      (chain_at up nest t (record { content = While e; nest = nest ++ (t ∷ []); parent = up }) u (inc t _ (inl (refl, refl))) refl) v r h
  chain_in (loop t e b k) nest up inc u v r (inr (inr h)) = chain_in k nest up (λ v r g. inc v r (inr (inr g))) u v r h

pub chain_of : (p : Body) (v : Tag) (r : Standing) → StandsAsIn p v r → Chain p v r.nest
chain_of p v r h = chain_in p p [] None (λ v r g. g) refl v r h

pub same_first : {a b : Tag × Bool} → Some a ≡ Some b → a.0 ≡ b.0
same_first e = cc

-- one nest
pub one_chain : (p : Body) → Distinct (skeleton p) → (v : Tag) (m n : List Tag) → Chain p v m → Chain p v n → m ≡ n
one_chain p di v _ _ (top r h a) (top q g b) = ap (λ (z : Standing). own_nest z.content v []) (standing_one p [] None di v r q h g)
one_chain p di v _ _ (top r h a) (below q w y g b c) = let e = standing_one p [] None di v r q h g in let f : ◌≡◌ {A = Parent} None (Some (w, y)) = sym a ∙ (ap (λ (z : Standing). z.parent) e ∙ b) in absurd cc
one_chain p di v _ _ (below r w y h a c) (top q g b) = let e = standing_one p [] None di v r q h g in let f : ◌≡◌ {A = Parent} (Some (w, y)) None = sym a ∙ (ap (λ (z : Standing). z.parent) e ∙ b) in absurd cc
one_chain p di v _ _ (below {nest = m} r w y h a c) (below {nest = n} q w' y' g b d) =
    let e = standing_one p [] None di v r q h g in
    let f = same_first (sym a ∙ (ap (λ (z : Standing). z.parent) e ∙ b)) in
    let i = one_chain p di w m n c (subst (λ z. Chain p z n) (sym f) d) in
    ap (λ (z : Standing). own_nest z.content v m) e ∙ ap (own_nest q.content v) i

-- places by the number of their turns
length_push : {A : Type 0} (xs : List A) (x : A) → length (xs ++ (x ∷ [])) ≡ length xs + 1
length_push [] x = refl
length_push (y ∷ xs) x = let e = length_push xs x in omega (arith, e)

abbrev HasTurns : List Tag → Parent → Body → Place → Type 0
HasTurns nest up B π = (r : Standing) × StandsAs nest up B π.0 r × (length π.1 ≡ length r.nest)

pub place_has_turns : (B : Body) (T : List ℕ) (nest : List Tag) (up : Parent) (π : Place) → length T ≡ length nest → IsPlaceUnder (skeleton B) T π → HasTurns nest up B π
place_has_turns done T nest up π l h = absurd h
place_has_turns (action t d k) T nest up π l (inl q) = (_, inl (ap (λ (z : Place). z.0) q, refl), ap (λ (z : Place). length z.1) q ∙ l)
place_has_turns (action t d k) T nest up π l (inr h) = let g = place_has_turns k T nest up π l h in (g.0, inr g.1, g.2)
place_has_turns (branch t e a b k) T nest up π l (inl q) = (_, inl (ap (λ (z : Place). z.0) q, refl), ap (λ (z : Place). length z.1) q ∙ l)
place_has_turns (branch t e a b k) T nest up π l (inr (inl h)) = let g = place_has_turns a T nest (Some (t, true)) π l h in (g.0, inr (inl g.1), g.2)
place_has_turns (branch t e a b k) T nest up π l (inr (inr (inl h))) = let g = place_has_turns b T nest (Some (t, false)) π l h in (g.0, inr (inr (inl g.1)), g.2)
place_has_turns (branch t e a b k) T nest up π l (inr (inr (inr h))) = let g = place_has_turns k T nest up π l h in (g.0, inr (inr (inr g.1)), g.2)
place_has_turns (loop t e b k) T nest up π l (inl (j, q)) =
    (_, inl (ap (λ (z : Place). z.0) q, refl), ap (λ (z : Place). length z.1) q ∙ (length_push T j ∙ (ap (λ n. n + 1) l ∙ sym (length_push nest t))))
place_has_turns (loop t e b k) T nest up π l (inr (inl (j, h))) =
    let g = place_has_turns b (T ++ (j ∷ [])) (nest ++ (t ∷ [])) (Some (t, true)) π (length_push T j ∙ (ap (λ n. n + 1) l ∙ sym (length_push nest t))) h in (g.0, inr (inl g.1), g.2)
place_has_turns (loop t e b k) T nest up π l (inr (inr h)) = let g = place_has_turns k T nest up π l h in (g.0, inr (inr g.1), g.2)

-- what is left of turns after T
none_left : (T rest : List ℕ) (n : ℕ) → length T ≡ n → length (T ++ rest) ≡ n → rest ≡ []
none_left T [] n l e = refl
none_left T (x ∷ rest) n l e = let f = length-append T (x ∷ rest) in absurd (omega (arith, l, e, f))

one_left : (T rest : List ℕ) (n : ℕ) → length T ≡ n → length (T ++ rest) ≡ n + 1 → (j : ℕ) × (rest ≡ j ∷ [])
one_left T [] n l e = let f = length-append T [] in absurd (omega (arith, l, e, f))
one_left T (x ∷ []) n l e = (x, refl)
one_left T (x ∷ y ∷ rest) n l e = let f = length-append T (x ∷ y ∷ rest) in absurd (omega (arith, l, e, f))

some_left : (T rest : List ℕ) (n m : ℕ) → length T ≡ n → length (T ++ rest) ≡ n + suc m → (j : ℕ) × (more : List ℕ) × (rest ≡ j ∷ more)
some_left T [] n m l e = let f = length-append T [] in absurd (omega (arith, l, e, f))
some_left T (x ∷ rest) n m l e = (x, rest, refl)

nest_longer : (B : Body) (nest : List Tag) (t : Tag) (up : Parent) (v : Tag) (r : Standing) → StandsAs (nest ++ (t ∷ [])) up B v r → (m : ℕ) × (length r.nest ≡ length nest + suc m)
nest_longer B nest t up v r h = go (nest_begins B (nest ++ (t ∷ [])) up v r h)
  where
    go : BeginsWith (λ w. StandsIn (skeleton B) (at w)) (nest ++ (t ∷ [])) r.nest → (m : ℕ) × (length r.nest ≡ length nest + suc m)
    go (inl e) = (0, ap length e ∙ length_push nest t)
    go (inr (w, more, e, i)) = let a = length-append (nest ++ (t ∷ [])) (w ∷ more) in let b = length_push nest t in
        (suc (length more), ap length e ∙ omega (arith, a, b))

pub place_by_turns : (B : Body) (T : List ℕ) (nest : List Tag) (up : Parent) (π : Place) (r : Standing) → StandsAs nest up B π.0 r → length T ≡ length nest
    → (rest : List ℕ) → π.1 ≡ T ++ rest → length π.1 ≡ length r.nest → IsPlaceUnder (skeleton B) T π
place_by_turns done T nest up π r h l rest q e = h
place_by_turns (action t d k) T nest up π r (inl h) l rest q e =
    let m = none_left T rest (length nest) l (sym (ap length q) ∙ (e ∙ ap (λ (z : Standing). length z.nest) h.1)) in
    let s = q ∙ (ap (λ z. T ++ z) m ∙ append-nil T) in inl (λ i. (h.0 i, s i))
place_by_turns (action t d k) T nest up π r (inr h) l rest q e = inr (place_by_turns k T nest up π r h l rest q e)
place_by_turns (branch t v a b k) T nest up π r (inl h) l rest q e =
    let m = none_left T rest (length nest) l (sym (ap length q) ∙ (e ∙ ap (λ (z : Standing). length z.nest) h.1)) in
    let s = q ∙ (ap (λ z. T ++ z) m ∙ append-nil T) in inl (λ i. (h.0 i, s i))
place_by_turns (branch t v a b k) T nest up π r (inr (inl h)) l rest q e = inr (inl (place_by_turns a T nest (Some (t, true)) π r h l rest q e))
place_by_turns (branch t v a b k) T nest up π r (inr (inr (inl h))) l rest q e = inr (inr (inl (place_by_turns b T nest (Some (t, false)) π r h l rest q e)))
place_by_turns (branch t v a b k) T nest up π r (inr (inr (inr h))) l rest q e = inr (inr (inr (place_by_turns k T nest up π r h l rest q e)))
place_by_turns (loop t v b k) T nest up π r (inl h) l rest q e =
    let m = one_left T rest (length nest) l (sym (ap length q) ∙ (e ∙ (ap (λ (z : Standing). length z.nest) h.1 ∙ length_push nest t))) in
    let s = q ∙ ap (λ z. T ++ z) m.1 in inl (m.0, λ i. (h.0 i, s i))
place_by_turns (loop t v b k) T nest up π r (inr (inl h)) l rest q e =
    let g = nest_longer b nest t (Some (t, true)) π.0 r h in
    let m = some_left T rest (length nest) g.0 l (sym (ap length q) ∙ (e ∙ g.1)) in
    inr (inl (
      m.0,
      place_by_turns b (T ++ (m.0 ∷ [])) (nest ++ (t ∷ [])) (Some (t, true)) π r h (length_push T m.0 ∙ (ap (λ n. n + 1) l ∙ sym (length_push nest t))) m.1
          (q ∙ (ap (λ z. T ++ z) m.2 ∙ sym (append_assoc T (m.0 ∷ []) m.1))) e,
    ))
place_by_turns (loop t v b k) T nest up π r (inr (inr h)) l rest q e = inr (inr (place_by_turns k T nest up π r h l rest q e))

pub chain_first : (p : Body) (t : Tag) (n : List Tag) → Chain p t n → (r : Standing) × StandsAsIn p t r
chain_first p t _ (top r h a) = (r, h)
chain_first p t _ (below r w b h a c) = (r, h)
