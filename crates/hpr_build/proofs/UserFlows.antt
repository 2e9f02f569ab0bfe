-- What the rows say of the flow edges to a point is what the paths say.
use Rattle.std.proofs.Common.{◌≡◌, ℕ, ◌+◌, ◌<◌, Bool, Option, None, Some, List, [], map, length, get_or, take, Contains, IsTrue, ◌⊎◌, ◌↔◌, inl, inr, refl, sym, ap, ◌∙◌, subst, arith, length-take}
use Rattle.std.proofs.lemmas.Bool.{cases_eq}
use Rattle.std.proofs.lemmas.List.{get_or-take, get_or_default}
use Rattle.std.proofs.lemmas.List.Elements.{All-contains}
use Rattle.std.proofs.lemmas.Option.{slice_get-get_or}
use Rattle.hpr_terms.proofs.Facts.{in_none, in_map, map_in, taken_item}
use Rattle.hpr_search.specs.Marks.{IsMarked}
use Rattle.hpr_paths.specs.Spots.{Spot, nest_at, IsLoopAt}
use Rattle.hpr_paths.specs.Successors.{AreSpots}
use Rattle.hpr_reach.specs.Reaches.{Reaches}
use Rattle.hpr_reach.specs.Flows.{ComesRound, GoesOn, PartsAt}
use Rattle.hpr_reach.proofs.Chains.{common_front, common_reach}
use Rattle.hpr_reach.proofs.Flows.{loop_calm, carried_parts, carried_from_parts}
use Rattle.hpr_build.specs.declared.flows.Flow.{Flow}
use Rattle.hpr_build.specs.declared.flows.FlowKind.{FlowKind}
use Rattle.hpr_build.specs.declared.flows.FlowKind.TheVariants.{Independent, Carried}
use Rattle.hpr_build.specs.Flows.{IsFlowAt, CutsTo, AreCarries, IsCarriedBy, IsKindBelow, IsFlowBelow}
use Rattle.hpr_graph.specs.Graphs.{IsOnce}
use Rattle.hpr_build.proofs.Once.{once_map}

module _ (spots : List Spot) (x : List ℕ) (d u c : ℕ) (are : AreSpots spots) (parts : PartsAt (nest_at spots d) (nest_at spots u) c) where
  abbrev Nest : List ℕ
  Nest = nest_at spots d

  abbrev Both : ℕ → Type 0
  Both w = ComesRound spots x w d × GoesOn spots x w u

  in_front : (w i : ℕ) → i < c → get_or Nest i 0 ≡ w → Contains (take c Nest) w
  in_front w i l e =
      let within : i < length Nest = omega (arith, l, parts.left) in
      (i, omega (arith, l, length-take c Nest, parts.left), get_or-take c Nest i w l ∙ get_or_default Nest i w 0 within ∙ e)

  at_front : (w : ℕ) → Contains (take c Nest) w → (i : ℕ) × (i < c) × (get_or Nest i 0 ≡ w)
  at_front w (i, l, e) =
      let low : i < c = omega (arith, l, length-take c Nest) in
      let within : i < length Nest = omega (arith, l, length-take c Nest) in
      (i, low, sym (get_or_default Nest i w 0 within) ∙ sym (get_or-take c Nest i w low) ∙ e)

  module _ (cut : List Bool) (carries : List (Option (List Bool))) (n : ℕ) (enough : c < n + 1) (cuts : CutsTo spots x d c cut) (carried : AreCarries spots x d n carries) where
    through : (w i : ℕ) → i < c → get_or Nest i 0 ≡ w → IsCarriedBy (get_or carries i None) w u ↔ Both w
    through w i l e = subst (λ (v : ℕ). IsCarriedBy (get_or carries i None) v u ↔ Both v) e (carried i (omega (arith, l, enough)) u)

    pub kind_sound : (k : FlowKind) → IsKindBelow c Nest cut carries u k → IsFlowAt spots x d u k
    kind_sound Independent h = (common_reach spots are d u c parts x).0 ((cuts u).0 h)
    kind_sound (Carried w) (i, l, e, h) =
        let both : Contains Nest w × Contains (nest_at spots u) w = (common_front spots are d u c parts w).0 (in_front w i l e) in
        let on : Both w = (through w i l e).0 h in
        let loop : IsLoopAt spots w = All-contains (λ v. IsLoopAt spots v) Nest w (are.loops d) both.0 in
        (both.0, both.1, carried_from_parts spots x w d u (loop_calm spots w x loop) on.0 on.1)

    pub kind_complete : (k : FlowKind) → IsFlowAt spots x d u k → IsKindBelow c Nest cut carries u k
    kind_complete Independent h = (cuts u).1 ((common_reach spots are d u c parts x).1 h)
    kind_complete (Carried w) (dw, uw, (steps, path, there)) =
        let (i, l, e) = at_front w ((common_front spots are d u c parts w).1 (dw, uw)) in
        (i, l, e, (through w i l e).1 (carried_parts spots x w path there))

    -- the edges to the points so far, and to one more
    pub flows_more : (users : List ℕ) (k : ℕ) (flows flows' : List Flow) → k < length users → u ≡ get_or users k u
        → ((f : Flow) → Contains flows f ↔ (Contains (take k users) f.to × IsFlowAt spots x d f.to f.kind))
        → ((f : Flow) → Contains flows' f ↔ (Contains flows f ⊎ IsFlowBelow c Nest cut carries u f))
        → (f : Flow) → Contains flows' f ↔ (Contains (take (k + 1) users) f.to × IsFlowAt spots x d f.to f.kind)
    flows_more users k flows flows' l at before new f =
        let taken = taken_item users k u f.to l at in
        let At : ℕ → Type 0 = λ v. IsFlowAt spots x d v f.kind in (
          (λ h. elim ((new f).0 h) [
            | inl was ↦ (let (t, is) = (before f).0 was in (taken.1 (inl t), is))
            | inr (to, kind) ↦ (taken.1 (inr (sym to)), subst At (sym to) (kind_sound f.kind kind))
          ]),
          (λ (t, is). elim (taken.0 t) [
            | inl was ↦ (new f).1 (inl ((before f).1 (was, is)))
            | inr e ↦ (new f).1 (inr (sym e, kind_complete f.kind (subst At (sym e) is)))
          ]),
        )

-- the kinds of one point, one loop more
flow_is : (u : ℕ) (k : FlowKind) (f : Flow) → f.to ≡ u → f.kind ≡ k → record { to = u; kind = k } ≡ f
flow_is u k f a b = λ i. record { to = sym a i; kind = sym b i }

module _ (loops : List ℕ) (cut : List Bool) (carries : List (Option (List Bool))) (u : ℕ) (test : Bool) where
  none_by : (f : Flow) (k : FlowKind) → IsTrue test ↔ IsMarked cut u → f.to ≡ u → f.kind ≡ k → IsKindBelow 0 loops cut carries u k → IsTrue test × (record { to = u; kind = Independent } ≡ f)
  none_by f Independent tests to kind h = (tests.1 h, flow_is u Independent f to kind)
  none_by f (Carried w) tests to kind (i, l, at, m) = absurd (omega (arith, l))

  pub kinds_none : (f : Flow) → IsTrue test ↔ IsMarked cut u → (IsTrue test × (record { to = u; kind = Independent } ≡ f)) ↔ IsFlowBelow 0 loops cut carries u f
  kinds_none f tests = (
    (λ (t, e). subst (λ (g : Flow). IsFlowBelow 0 loops cut carries u g) e (refl, tests.0 t)),
    (λ (to, k). none_by f f.kind tests to refl k),
  )

  more_to : (n : ℕ) (k : FlowKind) → IsKindBelow n loops cut carries u k → IsKindBelow (n + 1) loops cut carries u k
  more_to n Independent h = h
  more_to n (Carried w) (i, l, at, m) = (i, omega (arith, l), at, m)

  more_from : (n : ℕ) (f : Flow) (k : FlowKind) → IsTrue test ↔ IsCarriedBy (get_or carries n None) (get_or loops n 0) u → f.to ≡ u → f.kind ≡ k → IsKindBelow (n + 1) loops cut carries u k
      → IsKindBelow n loops cut carries u k ⊎ (IsTrue test × (record { to = u; kind = Carried (get_or loops n 0) } ≡ f))
  more_from n f Independent tests to kind h = inl h
  more_from n f (Carried w) tests to kind (i, l, at, m) = elim (cases_eq i n) [
    | inl e ↦ (let same : get_or loops n 0 ≡ w = sym (ap (λ (j : ℕ). get_or loops j 0) e) ∙ at in
        let here : IsCarriedBy (get_or carries n None) w u = subst (λ (j : ℕ). IsCarriedBy (get_or carries j None) w u) e m in
        inr (tests.1 (subst (λ (v : ℕ). IsCarriedBy (get_or carries n None) v u) (sym same) here), flow_is u (Carried (get_or loops n 0)) f to (kind ∙ ap Carried (sym same))))
    | inr ne ↦ inl (i, omega (arith, l), at, m)
  ]

  pub kinds_more : (n : ℕ) (f : Flow) → IsTrue test ↔ IsCarriedBy (get_or carries n None) (get_or loops n 0) u
      → (IsFlowBelow n loops cut carries u f ⊎ (IsTrue test × (record { to = u; kind = Carried (get_or loops n 0) } ≡ f))) ↔ IsFlowBelow (n + 1) loops cut carries u f
  kinds_more n f tests = (
    (λ h. elim h [
      | inl b ↦ (b.0, more_to n f.kind b.1)
      | inr t ↦ subst (λ (g : Flow). IsFlowBelow (n + 1) loops cut carries u g) t.1 (refl, (n, omega arith, refl, tests.0 t.0))
    ]),
    (λ (to, k). elim (more_from n f f.kind tests to refl k) [ inl b ↦ inl (to, b) | inr t ↦ inr t ]),
  )

pub either_same : {A B C D : Type 0} → A ↔ (B ⊎ C) → C ↔ D → A ↔ (B ⊎ D)
either_same f g = (
  (λ a. elim (f.0 a) [ inl b ↦ inl b | inr c ↦ inr (g.0 c) ]),
  (λ h. elim h [ inl b ↦ f.1 (inl b) | inr d ↦ f.1 (inr (g.1 d)) ]),
)

pub either_more : {A A' B T O B' : Type 0} → A' ↔ (A ⊎ T) → A ↔ (O ⊎ B) → (B ⊎ T) ↔ B' → A' ↔ (O ⊎ B')
either_more new old more = (
  (λ h. elim (new.0 h) [
    | inl a ↦ (elim (old.0 a) [ inl o ↦ inl o | inr b ↦ inr (more.0 (inl b)) ])
    | inr t ↦ inr (more.0 (inr t))
  ]),
  (λ h. elim h [
    | inl o ↦ new.1 (inl (old.1 (inl o)))
    | inr b' ↦ (elim (more.1 b') [ inl b ↦ new.1 (inl (old.1 (inr b))) | inr t ↦ new.1 (inr t) ])
  ]),
)

-- the next loop isn't among those before it
below_kind : (loops : List ℕ) (cut : List Bool) (carries : List (Option (List Bool))) (n u w : ℕ) (k : FlowKind) → IsOnce loops → n < length loops → get_or loops n 0 ≡ w → k ≡ Carried w → ¬ IsKindBelow n loops cut carries u k
below_kind loops cut carries n u w Independent once l at is h = cc
below_kind loops cut carries n u w (Carried v) once l at is (i, li, e, m) =
    let same : v ≡ w = cc in
    let place : i ≡ n = once i n w (slice_get-get_or loops i 0 (omega (arith, li, l)) ∙ ap (λ (y : ℕ). Some y) (e ∙ same)) (slice_get-get_or loops n 0 l ∙ ap (λ (y : ℕ). Some y) at) in
    omega (arith, li, place)

pub not_below : (loops : List ℕ) (cut : List Bool) (carries : List (Option (List Bool))) (n u w : ℕ) → IsOnce loops → n < length loops → get_or loops n 0 ≡ w → ¬ IsFlowBelow n loops cut carries u (record { to = u; kind = Carried w })
not_below loops cut carries n u w once l at h = below_kind loops cut carries n u w (Carried w) once l at refl h.1

-- where a flow edge leads to, an undisturbed path goes
reached_of_flow : (spots : List Spot) (x : List ℕ) (d u : ℕ) (k : FlowKind) → IsFlowAt spots x d u k → Reaches spots x [] d u
reached_of_flow spots x d u Independent (steps, path, avoids) = (steps, path, λ w h. absurd (in_none w h))
reached_of_flow spots x d u (Carried w) (dw, uw, (steps, path, there)) = (steps, path, λ v h. absurd (in_none v h))

-- so the flow edges to those of the users that are reached are those to all users
pub flows_to_reached : (spots : List Spot) (x : List ℕ) (d : ℕ) (row users : List Bool) (reached : List ℕ) (f : Flow) (A : Type 0) → CutsTo spots x d 0 row
    → ((p : ℕ) → Contains reached p ↔ (IsMarked row p × IsMarked users p)) → A ↔ (Contains reached f.to × IsFlowAt spots x d f.to f.kind) → A ↔ (IsMarked users f.to × IsFlowAt spots x d f.to f.kind)
flows_to_reached spots x d row users reached f A cuts both exact = (
  (λ a. let (r, at) = exact.0 a in (((both f.to).0 r).1, at)),
  (λ (m, at). exact.1 ((both f.to).1 ((cuts f.to).1 (reached_of_flow spots x d f.to f.kind at), m), at)),
)

-- the flow edges to the marked users are those to the users in the list
pub flows_by_list : (spots : List Spot) (x : List ℕ) (d : ℕ) (users : List ℕ) (row : List Bool) (flows : List Flow) → ((p : ℕ) → IsMarked row p ↔ Contains users p)
    → ((f : Flow) → Contains flows f ↔ (IsMarked row f.to × IsFlowAt spots x d f.to f.kind)) → (f : Flow) → Contains flows f ↔ (Contains users f.to × IsFlowAt spots x d f.to f.kind)
flows_by_list spots x d users row flows marks exact f = (
  (λ h. let (m, at) = (exact f).0 h in ((marks f.to).0 m, at)),
  (λ (u, at). (exact f).1 ((marks f.to).1 u, at)),
)

-- the flow edges from a point that no loop encloses
abbrev pub plain : ℕ → Flow
plain u = record { to = u; kind = Independent }

module _ (spots : List Spot) (x : List ℕ) (d : ℕ) (top : nest_at spots d ≡ []) where
  no_loop : (w : ℕ) → ¬ Contains (nest_at spots d) w
  no_loop w h = in_none w (subst (λ (ws : List ℕ). Contains ws w) top h)

  plain_kind : (u : ℕ) (k : FlowKind) → IsFlowAt spots x d u k → k ≡ Independent
  plain_kind u Independent at = refl
  plain_kind u (Carried w) at = absurd (no_loop w at.0)

  plain_flow : (u : ℕ) → Reaches spots x [] d u → IsFlowAt spots x d u Independent
  plain_flow u (steps, path, avoids) = (steps, path, λ w here there. absurd (no_loop w here))

  -- the flow edges to the users that a row of what is reached marks
  pub flows_of_row : (row : List Bool) (users : List ℕ) → CutsTo spots x d 0 row → (f : Flow)
      → ((f.kind ≡ Independent) × Contains users f.to × IsMarked row f.to) ↔ (Contains users f.to × IsFlowAt spots x d f.to f.kind)
  flows_of_row row users cuts f = (
    (λ (kind, u, m). (u, subst (λ (k : FlowKind). IsFlowAt spots x d f.to k) (sym kind) (plain_flow f.to ((cuts f.to).0 m)))),
    (λ (u, at). (plain_kind f.to f.kind at, u, (cuts f.to).1 (reached_of_flow spots x d f.to f.kind at))),
  )

  pub plain_exact : (row users : List Bool) (reached : List ℕ) → CutsTo spots x d 0 row → ((p : ℕ) → Contains reached p ↔ (IsMarked row p × IsMarked users p))
      → (f : Flow) → Contains (map plain reached) f ↔ (IsMarked users f.to × IsFlowAt spots x d f.to f.kind)
  plain_exact row users reached cuts both f = (
    (λ h. (let (u, has, is) = map_in plain reached f h in
        let (r, m) = (both u).0 has in
        subst (λ (g : Flow). IsMarked users g.to × IsFlowAt spots x d g.to g.kind) is (m, plain_flow u ((cuts u).0 r)))),
    (λ (m, at). (let kind : f.kind ≡ Independent = plain_kind f.to f.kind at in
        let is : plain f.to ≡ f = λ i. record { to = f.to; kind = sym kind i } in
        subst (λ (g : Flow). Contains (map plain reached) g) is (in_map plain reached f.to ((both f.to).1 ((cuts f.to).1 (reached_of_flow spots x d f.to f.kind at), m))))),
  )

pub plain_once : (reached : List ℕ) → IsOnce reached → IsOnce (map plain reached)
plain_once reached once = once_map plain reached once (λ u v hu hv e. ap (λ (f : Flow). f.to) e)
