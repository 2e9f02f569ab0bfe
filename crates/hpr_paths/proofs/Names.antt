-- Steps by number and by tag.
--
-- Holds S body n f w  == the points of the block stand in the list S
-- Names S s y         == the step s leads to this point, with this mark
-- StepOf S In a y     == some point of In that stands for a has a step that leads to y
use Rattle.std.proofs.Common.{◌≡◌, ◌+◌, ℕ, zero, suc, true, inl, inr, Option, Some, List, [], ◌∷◌, ◌++◌, refl, sym, ap, ◌∙◌, subst}
use Rattle.std.specs.List.{slice_get, Contains}
use Rattle.std.specs.Option.{option_map, option_and_then}
use Rattle.std.proofs.lemmas.Option.{same_Some}
use Rattle.hpr_terms.specs.declared.tag.Tag.{Tag}
use Rattle.hpr_terms.specs.declared.expr.Expr.{Expr}
use Rattle.hpr_syntax.specs.declared.rows.Content.TheVariants.{If, While}
use Rattle.hpr_syntax.specs.Rows.{content_by}
use Rattle.hpr_syntax.specs.Body.{Body, done, action, branch, loop, part_count}
use Rattle.hpr_syntax.specs.Skeleton.{Point, skeleton, at}
use Rattle.hpr_syntax.specs.Pairs.{Next, first_of, FollowsIn}
use Rattle.hpr_paths.specs.declared.spot.Step.{Step}
use Rattle.hpr_paths.specs.Spots.{Role, part, Spot, point_of, tag_of, role_at}
use Rattle.hpr_paths.specs.Successors.{first_step, spot_of}
use Rattle.hpr_paths.specs.Numbers.{mark_of}
use Rattle.hpr_terms.proofs.Few.{contains_one, contains_two, has_one, has_first, has_second}
use Rattle.hpr_paths.proofs.Stands.{SpotIn}

pub role_of_get : (S : List Spot) (p : ℕ) (s : Spot) → slice_get S p ≡ Some s → role_at S p ≡ Some s.role
role_of_get S p s h = ap (option_map (λ (t : Spot). t.role)) h

pub get_of_role : (S : List Spot) (p : ℕ) (r : Role) → role_at S p ≡ Some r → (s : Spot) × (slice_get S p ≡ Some s) × (s.role ≡ r)
get_of_role [] p r h = absurd cc
get_of_role (x ∷ xs) zero r h = (x, refl, same_Some x.role r h)
get_of_role (x ∷ xs) (suc k) r h = get_of_role xs k r h

abbrev pub Holds : List Spot → Body → ℕ → Step → List ℕ → Type 0
Holds S b n f w = (p : ℕ) (s : Spot) → SpotIn b n f w p s → slice_get S p ≡ Some s

abbrev pub Names : List Spot → Step → Next → Type 0
Names S s y = (r : Role) × (role_at S s.to ≡ Some r) × (y ≡ (point_of r, mark_of S s))

pub names_one : (S : List Spot) (s : Step) (y z : Next) → Names S s y → Names S s z → y ≡ z
names_one S s y z h k = h.2 ∙ ap (λ (r : Role). (point_of r, mark_of S s)) (same_Some h.0 k.0 (sym h.1 ∙ k.1)) ∙ sym k.2

names_again : (S : List Spot) (n : ℕ) (t : Tag) (e : Expr) → role_at S n ≡ Some (part t (While e)) → Names S (record { to = n; back = true }) (at t, Some t)
names_again S n t e h = (part t (While e), h, ap (λ (m : Option Tag). (at t, m)) (sym (ap (option_and_then tag_of) h)))

-- a block begins at its first part, or at what follows it
pub first_names : (S : List Spot) (b : Body) (n : ℕ) (f : Step) (w : List ℕ) (z : Next) → Holds S b n f w → Names S f z → Names S (first_step b n f) (first_of (skeleton b) z)
first_names S done n f w z holds h = h
first_names S (action t d rest) n f w z holds h = (part t (content_by d), role_of_get S n _ (holds n _ (inl (refl, refl))), refl)
first_names S (branch t e a b rest) n f w z holds h = (part t (If e), role_of_get S n _ (holds n _ (inl (refl, refl))), refl)
first_names S (loop t e b rest) n f w z holds h = (part t (While e), role_of_get S n _ (holds n _ (inl (refl, refl))), refl)

pub again_names : (S : List Spot) (t : Tag) (e : Expr) (b rest : Body) (n : ℕ) (f : Step) (w : List ℕ) → Holds S (loop t e b rest) n f w → Names S (record { to = n; back = true }) (at t, Some t)
again_names S t e b rest n f w holds = names_again S n t e (role_of_get S n _ (holds n _ (inl (refl, refl))))

-- the step that was taken, by its name
taken : (S : List Spot) (st g : Step) (y z : Next) → st ≡ g → Names S st y → Names S g z → y ≡ z
taken S st g y z is h k = let P : Step → Type 0 = λ q. Names S q y in names_one S g y z (subst P is h) k

from_spot : (s q : Spot) (st : Step) → s ≡ q → Contains s.next st → Contains q.next st
from_spot s q st is h = let P : Spot → Type 0 = λ x. Contains x.next st in subst P is h

pub follows_of_step : (S : List Spot) (b : Body) (n : ℕ) (f : Step) (w : List ℕ) (z : Next) (p : ℕ) (s : Spot) (st : Step) (y : Next) → Holds S b n f w → Names S f z → SpotIn b n f w p s → Contains s.next st → Names S st y → FollowsIn (skeleton b) z (point_of s.role) y.0 y.1
follows_of_step S done n f w z p s st y holds hf h c hy = absurd h
follows_of_step S (action t d rest) n f w z p s st y holds hf (inl h) c hy =
    inl (ap (λ (q : Spot). point_of q.role) h.1, taken S st _ y _ (contains_one _ st (from_spot s _ st h.1 c)) hy (first_names S rest (n + 1) f w z (λ p s i. holds p s (inr i)) hf))
follows_of_step S (action t d rest) n f w z p s st y holds hf (inr h) c hy =
    inr (follows_of_step S rest (n + 1) f w z p s st y (λ p s i. holds p s (inr i)) hf h c hy)
follows_of_step S (branch t e a b rest) n f w z p s st y holds hf (inl h) c hy =
    let no : ℕ = n + 1 + part_count a in
    let next : ℕ = no + part_count b in
    let after : Step = first_step rest next f in
    let ha : Names S after (first_of (skeleton rest) z) = first_names S rest next f w z (λ p s i. holds p s (inr (inr (inr i)))) hf in
    inl (
      ap (λ (q : Spot). point_of q.role) h.1,
      elim (contains_two _ _ st (from_spot s _ st h.1 c)) [
        | inl is ↦ inl (taken S st _ y _ is hy (first_names S a (n + 1) after w (first_of (skeleton rest) z) (λ p s i. holds p s (inr (inl i))) ha))
        | inr is ↦ inr (taken S st _ y _ is hy (first_names S b no after w (first_of (skeleton rest) z) (λ p s i. holds p s (inr (inr (inl i)))) ha))
      ],
    )
follows_of_step S (branch t e a b rest) n f w z p s st y holds hf (inr h) c hy =
    let no : ℕ = n + 1 + part_count a in
    let next : ℕ = no + part_count b in
    let after : Step = first_step rest next f in
    let ha : Names S after (first_of (skeleton rest) z) = first_names S rest next f w z (λ p s i. holds p s (inr (inr (inr i)))) hf in
    inr (elim h [
      | inl x ↦ inl (follows_of_step S a (n + 1) after w (first_of (skeleton rest) z) p s st y (λ p s i. holds p s (inr (inl i))) ha x c hy)
      | inr k ↦ inr (elim k [
        | inl x ↦ inl (follows_of_step S b no after w (first_of (skeleton rest) z) p s st y (λ p s i. holds p s (inr (inr (inl i)))) ha x c hy)
        | inr x ↦ inr (follows_of_step S rest next f w z p s st y (λ p s i. holds p s (inr (inr (inr i)))) hf x c hy)
      ])
    ])
follows_of_step S (loop t e b rest) n f w z p s st y holds hf (inl h) c hy =
    let next : ℕ = n + 1 + part_count b in
    let again : Step = record { to = n; back = true } in
    let hg : Names S again (at t, Some t) = again_names S t e b rest n f w holds in
    inl (
      ap (λ (q : Spot). point_of q.role) h.1,
      elim (contains_two _ _ st (from_spot s _ st h.1 c)) [
        | inl is ↦ inl (taken S st _ y _ is hy (first_names S b (n + 1) again (w ++ n ∷ []) (at t, Some t) (λ p s i. holds p s (inr (inl i))) hg))
        | inr is ↦ inr (taken S st _ y _ is hy (first_names S rest next f w z (λ p s i. holds p s (inr (inr i))) hf))
      ],
    )
follows_of_step S (loop t e b rest) n f w z p s st y holds hf (inr h) c hy =
    let next : ℕ = n + 1 + part_count b in
    let again : Step = record { to = n; back = true } in
    let hg : Names S again (at t, Some t) = again_names S t e b rest n f w holds in
    inr (elim h [
      | inl x ↦ inl (follows_of_step S b (n + 1) again (w ++ n ∷ []) (at t, Some t) p s st y (λ p s i. holds p s (inr (inl i))) hg x c hy)
      | inr x ↦ inr (follows_of_step S rest next f w z p s st y (λ p s i. holds p s (inr (inr i))) hf x c hy)
    ])

pub record StepOf (S : List Spot) (In : ℕ → Spot → Type 0) (a : Point) (y : Next) : Type 0 where
  pub from : ℕ
  pub spot : Spot
  pub step : Step
  pub stands : In from spot
  pub point : a ≡ point_of spot.role
  pub there : Contains spot.next step
  pub named : Names S step y

wider : (S : List Spot) (In Out : ℕ → Spot → Type 0) (a : Point) (y : Next) → ((p : ℕ) (s : Spot) → In p s → Out p s) → StepOf S In a y → StepOf S Out a y
wider S In Out a y f h = record { from = h.from; spot = h.spot; step = h.step; stands = f h.from h.spot h.stands; point = h.point; there = h.there; named = h.named }

renamed : (S : List Spot) (st : Step) (y z : Next) → y ≡ z → Names S st z → Names S st y
renamed S st y z is h = (h.0, h.1, is ∙ h.2)

pub step_of_follows : (S : List Spot) (b : Body) (n : ℕ) (f : Step) (w : List ℕ) (z : Next) (a : Point) (y : Point) (m : Option Tag) → Holds S b n f w → Names S f z → FollowsIn (skeleton b) z a y m → StepOf S (SpotIn b n f w) a (y, m)
step_of_follows S done n f w z a y m holds hf h = absurd h
step_of_follows S (action t d rest) n f w z a y m holds hf (inl h) =
    record {
      from = n;
      spot = spot_of (first_step rest (n + 1) f ∷ []) w (part t (content_by d));
      step = first_step rest (n + 1) f;
      stands = inl (refl, refl);
      point = h.0;
      there = has_one (first_step rest (n + 1) f);
      named = renamed S (first_step rest (n + 1) f) (y, m) (first_of (skeleton rest) z) h.1 (first_names S rest (n + 1) f w z (λ p s i. holds p s (inr i)) hf);
    }
step_of_follows S (action t action_ rest) n f w z a y m holds hf (inr h) =
    wider S (SpotIn rest (n + 1) f w) (SpotIn (action t action_ rest) n f w) a (y, m) (λ p s i. inr i) (step_of_follows S rest (n + 1) f w z a y m (λ p s i. holds p s (inr i)) hf h)
step_of_follows S (branch t e b c rest) n f w z a y m holds hf (inl h) =
    let no : ℕ = n + 1 + part_count b in
    let next : ℕ = no + part_count c in
    let after : Step = first_step rest next f in
    let ha : Names S after (first_of (skeleton rest) z) = first_names S rest next f w z (λ p s i. holds p s (inr (inr (inr i)))) hf in
    let one : Step = first_step b (n + 1) after in
    let two : Step = first_step c no after in
    elim h.1 [
      | inl is ↦ record {
        from = n;
        spot = spot_of (one ∷ two ∷ []) w (part t (If e));
        step = one;
        stands = inl (refl, refl);
        point = h.0;
        there = has_first one two;
        named = renamed S one (y, m) (first_of (skeleton b) (first_of (skeleton rest) z)) is (first_names S b (n + 1) after w (first_of (skeleton rest) z) (λ p s i. holds p s (inr (inl i))) ha);
      }
      | inr is ↦ record {
        from = n;
        spot = spot_of (one ∷ two ∷ []) w (part t (If e));
        step = two;
        stands = inl (refl, refl);
        point = h.0;
        there = has_second one two;
        named = renamed S two (y, m) (first_of (skeleton c) (first_of (skeleton rest) z)) is (first_names S c no after w (first_of (skeleton rest) z) (λ p s i. holds p s (inr (inr (inl i)))) ha);
      }
    ]
step_of_follows S (branch t e b c rest) n f w z a y m holds hf (inr h) =
    let no : ℕ = n + 1 + part_count b in
    let next : ℕ = no + part_count c in
    let after : Step = first_step rest next f in
    let ha : Names S after (first_of (skeleton rest) z) = first_names S rest next f w z (λ p s i. holds p s (inr (inr (inr i)))) hf in
    elim h [
      | inl x ↦ wider S (SpotIn b (n + 1) after w) (SpotIn (branch t e b c rest) n f w) a (y, m) (λ p s i. inr (inl i))
          (step_of_follows S b (n + 1) after w (first_of (skeleton rest) z) a y m (λ p s i. holds p s (inr (inl i))) ha x)
      | inr k ↦ elim k [
        | inl x ↦ wider S (SpotIn c no after w) (SpotIn (branch t e b c rest) n f w) a (y, m) (λ p s i. inr (inr (inl i)))
            (step_of_follows S c no after w (first_of (skeleton rest) z) a y m (λ p s i. holds p s (inr (inr (inl i)))) ha x)
        | inr x ↦ wider S (SpotIn rest next f w) (SpotIn (branch t e b c rest) n f w) a (y, m) (λ p s i. inr (inr (inr i)))
            (step_of_follows S rest next f w z a y m (λ p s i. holds p s (inr (inr (inr i)))) hf x)
      ]
    ]
step_of_follows S (loop t e b rest) n f w z a y m holds hf (inl h) =
    let next : ℕ = n + 1 + part_count b in
    let again : Step = record { to = n; back = true } in
    let hg : Names S again (at t, Some t) = again_names S t e b rest n f w holds in
    let one : Step = first_step b (n + 1) again in
    let two : Step = first_step rest next f in
    elim h.1 [
      | inl is ↦ record {
        from = n;
        spot = spot_of (one ∷ two ∷ []) (w ++ n ∷ []) (part t (While e));
        step = one;
        stands = inl (refl, refl);
        point = h.0;
        there = has_first one two;
        named = renamed S one (y, m) (first_of (skeleton b) (at t, Some t)) is (first_names S b (n + 1) again (w ++ n ∷ []) (at t, Some t) (λ p s i. holds p s (inr (inl i))) hg);
      }
      | inr is ↦ record {
        from = n;
        spot = spot_of (one ∷ two ∷ []) (w ++ n ∷ []) (part t (While e));
        step = two;
        stands = inl (refl, refl);
        point = h.0;
        there = has_second one two;
        named = renamed S two (y, m) (first_of (skeleton rest) z) is (first_names S rest next f w z (λ p s i. holds p s (inr (inr i))) hf);
      }
    ]
step_of_follows S (loop t e b rest) n f w z a y m holds hf (inr h) =
    let next : ℕ = n + 1 + part_count b in
    let again : Step = record { to = n; back = true } in
    let hg : Names S again (at t, Some t) = again_names S t e b rest n f w holds in
    elim h [
      | inl x ↦ wider S (SpotIn b (n + 1) again (w ++ n ∷ [])) (SpotIn (loop t e b rest) n f w) a (y, m) (λ p s i. inr (inl i))
          (step_of_follows S b (n + 1) again (w ++ n ∷ []) (at t, Some t) a y m (λ p s i. holds p s (inr (inl i))) hg x)
      | inr x ↦ wider S (SpotIn rest next f w) (SpotIn (loop t e b rest) n f w) a (y, m) (λ p s i. inr (inr i))
          (step_of_follows S rest next f w z a y m (λ p s i. holds p s (inr (inr i))) hf x)
    ]

-- each step that a point has leads to some point
pub step_named : (S : List Spot) (b : Body) (n : ℕ) (f : Step) (w : List ℕ) (z : Next) (p : ℕ) (s : Spot) (st : Step) → Holds S b n f w → Names S f z → SpotIn b n f w p s → Contains s.next st → (y : Next) × Names S st y
step_named S done n f w z p s st holds hf h c = absurd h
step_named S (action t d rest) n f w z p s st holds hf (inl h) c =
    let P : Step → Type 0 = λ q. (y : Next) × Names S q y in
    subst P (sym (contains_one _ st (from_spot s _ st h.1 c))) (first_of (skeleton rest) z, first_names S rest (n + 1) f w z (λ p s i. holds p s (inr i)) hf)
step_named S (action t d rest) n f w z p s st holds hf (inr h) c =
    step_named S rest (n + 1) f w z p s st (λ p s i. holds p s (inr i)) hf h c
step_named S (branch t e a b rest) n f w z p s st holds hf (inl h) c =
    let P : Step → Type 0 = λ q. (y : Next) × Names S q y in
    let no : ℕ = n + 1 + part_count a in
    let next : ℕ = no + part_count b in
    let after : Step = first_step rest next f in
    let after_z : Next = first_of (skeleton rest) z in
    let ha : Names S after after_z = first_names S rest next f w z (λ p s i. holds p s (inr (inr (inr i)))) hf in
    elim (contains_two _ _ st (from_spot s _ st h.1 c)) [
      | inl is ↦ subst P (sym is) (first_of (skeleton a) after_z, first_names S a (n + 1) after w after_z (λ p s i. holds p s (inr (inl i))) ha)
      | inr is ↦ subst P (sym is) (first_of (skeleton b) after_z, first_names S b no after w after_z (λ p s i. holds p s (inr (inr (inl i)))) ha)
    ]
step_named S (branch t e a b rest) n f w z p s st holds hf (inr h) c =
    let no : ℕ = n + 1 + part_count a in
    let next : ℕ = no + part_count b in
    let after : Step = first_step rest next f in
    let after_z : Next = first_of (skeleton rest) z in
    let ha : Names S after after_z = first_names S rest next f w z (λ p s i. holds p s (inr (inr (inr i)))) hf in
    elim h [
      | inl x ↦ step_named S a (n + 1) after w after_z p s st (λ p s i. holds p s (inr (inl i))) ha x c
      | inr k ↦ elim k [
        | inl x ↦ step_named S b no after w after_z p s st (λ p s i. holds p s (inr (inr (inl i)))) ha x c
        | inr x ↦ step_named S rest next f w z p s st (λ p s i. holds p s (inr (inr (inr i)))) hf x c
      ]
    ]
step_named S (loop t e b rest) n f w z p s st holds hf (inl h) c =
    let P : Step → Type 0 = λ q. (y : Next) × Names S q y in
    let next : ℕ = n + 1 + part_count b in
    let again : Step = record { to = n; back = true } in
    let hg : Names S again (at t, Some t) = again_names S t e b rest n f w holds in
    elim (contains_two _ _ st (from_spot s _ st h.1 c)) [
      | inl is ↦ subst P (sym is) (first_of (skeleton b) (at t, Some t), first_names S b (n + 1) again (w ++ n ∷ []) (at t, Some t) (λ p s i. holds p s (inr (inl i))) hg)
      | inr is ↦ subst P (sym is) (first_of (skeleton rest) z, first_names S rest next f w z (λ p s i. holds p s (inr (inr i))) hf)
    ]
step_named S (loop t e b rest) n f w z p s st holds hf (inr h) c =
    let next : ℕ = n + 1 + part_count b in
    let again : Step = record { to = n; back = true } in
    let hg : Names S again (at t, Some t) = again_names S t e b rest n f w holds in
    elim h [
      | inl x ↦ step_named S b (n + 1) again (w ++ n ∷ []) (at t, Some t) p s st (λ p s i. holds p s (inr (inl i))) hg x c
      | inr x ↦ step_named S rest next f w z p s st (λ p s i. holds p s (inr (inr i))) hf x c
    ]
