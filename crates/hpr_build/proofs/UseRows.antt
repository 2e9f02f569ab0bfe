-- The uses of names by vertices, and the rows and numbers that are made of them.
use Rattle.std.proofs.Common.{◌≡◌, ℕ, ◌+◌, ◌<◌, ◌≤◌, Some, List, [], ◌∷◌, ◌++◌, length, take, replicate, get_or, slice_get, Contains, ◌⊎◌, ◌↔◌, inl, inr, refl, sym, ap, ◌∙◌, subst, arith}
use Rattle.std.specs.Str.{bytes_eq}
use Rattle.std.specs.List.Sorted.{IsStrictlySortedBy}
use Rattle.std.specs.Cmp.Lexicographic.{slice_cmp}
use Rattle.std.specs.Ordering.{nat_cmp}
use Rattle.std.proofs.lemmas.Bool.{cases_Bool, both_ways, cases_eq, cases_lt}
use Rattle.std.proofs.lemmas.Bool.Decides.{nat_tests}
use Rattle.std.proofs.lemmas.List.{get_or-replicate}
use Rattle.std.proofs.lemmas.Option.{same_Some, slice_get_within, slice_get-get_or}
use Rattle.std.proofs.lemmas.Slice.Eq.{bytes_eq-Decides}
use Rattle.hpr_terms.proofs.Facts.{in_none, place_of, taken_item}
use Rattle.hpr_syntax.specs.Tree.{Tree}
use Rattle.hpr_syntax.specs.Shape.{IsProgram}
use Rattle.hpr_paths.specs.Spots.{Spot, UsesAt}
use Rattle.hpr_paths.specs.Successors.{spots}
use Rattle.hpr_paths.proofs.Stands.{count_whole}
use Rattle.hpr_reach.proofs.Grown.{pushed, turn_used}
use Rattle.hpr_reach.proofs.Lives.{uses_within}
use Rattle.hpr_graph.specs.Graphs.{IsOnce}
use Rattle.hpr_graph.proofs.Lists.{not_before}
use Rattle.hpr_graph.proofs.NamesOnce.{names_once}
use Rattle.hpr_build.specs.declared.uses.Use.{Use}
use Rattle.hpr_build.specs.Links.{exit_of, IsTargetAt}
use Rattle.hpr_build.specs.Uses.{AreApart, AreEndsBy, AreUses, IsEnd, IsUsedFrom, point_of, use_of}
use Rattle.hpr_build.specs.Variables.{AreFinalNumbers}
use Rattle.hpr_build.proofs.BridgeVertices.{finals_once}
use Rattle.hpr_build.proofs.Once.{once_after, taken_among}
use Rattle.hpr_build.proofs.TargetNumbers.{target_uses, uses_exit}

pub point_low : (exit v : ℕ) → v < exit → point_of exit v ≡ v
point_low exit v l = grind (arith, nat_tests)

pub point_high : (exit v : ℕ) → exit ≤ v → point_of exit v ≡ exit
point_high exit v l = grind (arith, nat_tests)

cases_name : (x y : List ℕ) → (x ≡ y) ⊎ (x ≡ y → ⊥)
cases_name x y = elim (cases_Bool (bytes_eq x y)) [
  | inl t ↦ inl ((bytes_eq-Decides x y).0 t)
  | inr f ↦ inr (λ e. both_ways (bytes_eq x y) f ((bytes_eq-Decides x y).1 e))
]

-- ---- a use is its name and its number

pub use_is : (x : List ℕ) (v : ℕ) (u : Use) → x ≡ u.name → v ≡ u.number → use_of x v ≡ u
use_is x v u a b = λ i. record { name = a i; number = b i }

pub name_of_use : (x : List ℕ) (v : ℕ) (u : Use) → use_of x v ≡ u → x ≡ u.name
name_of_use x v u e = ap (λ (w : Use). w.name) e

pub number_of_use : (x : List ℕ) (v : ℕ) (u : Use) → use_of x v ≡ u → v ≡ u.number
number_of_use x v u e = ap (λ (w : Use). w.number) e

pub pushed_use : (was now : List Use) (x : List ℕ) (v : ℕ) (u : Use) → now ≡ was ++ use_of x v ∷ [] → Contains now u ↔ (Contains was u ⊎ ((x ≡ u.name) × (v ≡ u.number)))
pushed_use was now x v u items =
    let more = pushed was (use_of x v) u in
    subst (λ (us : List Use). Contains us u ↔ (Contains was u ⊎ ((x ≡ u.name) × (v ≡ u.number)))) (sym items) (
      (λ h. elim (more.0 h) [ inl old ↦ inl old | inr e ↦ inr (name_of_use x v u e, number_of_use x v u e) ]),
      (λ h. elim h [ inl old ↦ more.1 (inl old) | inr k ↦ more.1 (inr (use_is x v u k.0 k.1)) ]),
    )

-- ---- the uses by one vertex

module _ (names : List (List ℕ)) (k : ℕ) (name : List ℕ) (v : ℕ) (old was now : List Use) (l : k < length names) (is : name ≡ get_or names k name) (items : now ≡ was ++ use_of name v ∷ [])
    (before : (u : Use) → Contains was u ↔ (Contains old u ⊎ (Contains (take k names) u.name × (v ≡ u.number)))) where
  pub names_more : (u : Use) → Contains now u ↔ (Contains old u ⊎ (Contains (take (k + 1) names) u.name × (v ≡ u.number)))
  names_more u = turn_used names k name u.name (Contains was u) (Contains now u) (Contains old u) (v ≡ u.number) l is (pushed_use was now name v u items) (before u)

  pub names_apart : IsStrictlySortedBy (slice_cmp nat_cmp) names → IsOnce was → ((u : Use) → Contains old u → u.number < v) → IsOnce now
  names_apart sorted once below =
      once_after was now (use_of name v) once
      (λ h. elim ((before (use_of name v)).0 h) [
        | inl o ↦ (let low = below (use_of name v) o in omega (arith, low))
        | inr t ↦ not_before names k name (names_once names sorted) l is t.0
      ])
      items

-- ---- the uses of the names of `end`

module _ (finals : List (List ℕ)) (exit k : ℕ) (name : List ℕ) (old was now : List Use) (l : k < length finals) (is : name ≡ get_or finals k name) (items : now ≡ was ++ use_of name (exit + k) ∷ []) where
  -- that of one of the first names
  abbrev pub EndBelow : ℕ → Use → Type 0
  EndBelow n u = (j : ℕ) × (j < n) × (slice_get finals j ≡ Some u.name) × (u.number ≡ exit + j)

  name_there : slice_get finals k ≡ Some name
  name_there = slice_get-get_or finals k name l ∙ ap (λ (y : List ℕ). Some y) (sym is)

  pub ends_more : (u : Use) → Contains was u ↔ (Contains old u ⊎ EndBelow k u) → Contains now u ↔ (Contains old u ⊎ EndBelow (k + 1) u)
  ends_more u before =
      let new = pushed_use was now name (exit + k) u items in (
        (λ h. elim (new.0 h) [
          | inl o ↦ (elim (before.0 o) [ inl a ↦ inl a | inr (j, low, get, at) ↦ inr (j, omega (arith, low), get, at) ])
          | inr e ↦ inr (k, omega arith, name_there ∙ ap (λ (y : List ℕ). Some y) e.0, sym e.1)
        ]),
        (λ h. elim h [
          | inl a ↦ new.1 (inl (before.1 (inl a)))
          | inr (j, low, get, at) ↦ (elim (cases_eq j k) [
            | inl e ↦ new.1 (inr (
              same_Some name u.name (sym name_there ∙ ap (λ (i : ℕ). slice_get finals i) (sym e) ∙ get),
              ap (λ (i : ℕ). exit + i) (sym e) ∙ sym at,
            ))
            | inr ne ↦ new.1 (inl (before.1 (inr (j, omega (arith, low, ne), get, at))))
          ])
        ]),
      )

  pub ends_apart : ((u : Use) → Contains was u ↔ (Contains old u ⊎ EndBelow k u)) → IsOnce was → ((u : Use) → Contains old u → u.number < exit) → IsOnce now
  ends_apart before once below =
      once_after was now (use_of name (exit + k)) once
      (λ h. elim ((before (use_of name (exit + k))).0 h) [
        | inl o ↦ (let low = below (use_of name (exit + k)) o in omega (arith, low))
        | inr (j, low, get, at) ↦ omega (arith, low, at)
      ])
      items

pub ends_whole : (finals : List (List ℕ)) (exit n : ℕ) (u : Use) (A B : Type 0) → length finals ≤ n → A ↔ (B ⊎ ((j : ℕ) × (j < n) × (slice_get finals j ≡ Some u.name) × (u.number ≡ exit + j)))
    → A ↔ (B ⊎ IsEnd exit finals u)
ends_whole finals exit n u A B l is = (
  (λ a. elim (is.0 a) [ inl b ↦ inl b | inr (j, low, get, at) ↦ inr (j, get, at) ]),
  (λ h. elim h [ inl b ↦ is.1 (inl b) | inr (j, get, at) ↦ is.1 (inr (j, (let k = slice_get_within finals j u.name get in omega (arith, k, l)), get, at)) ]),
)

-- ---- the uses of a program

module _ (t : Tree) where
  pub all_uses : (exit : ℕ) (finals : List (List ℕ)) (s : List Spot) (parts whole : List Use) → s ≡ spots t → exit ≡ exit_of t → finals ≡ t.finals
      → ((u : Use) → Contains parts u ↔ ((u.number < exit) × UsesAt s u.number u.name)) → ((u : Use) → Contains whole u ↔ (Contains parts u ⊎ IsEnd exit finals u)) → AreUses t whole
  all_uses exit finals s parts whole same end names in_parts in_whole u = (
    (λ h. elim ((in_whole u).0 h) [
      | inl p ↦ (let (low, uses) = (in_parts u).0 p in (u.number, inl (refl, omega (arith, low, end), subst (λ (xs : List Spot). UsesAt xs u.number u.name) same uses)))
      | inr (k, get, at) ↦ (exit_of t, inr (refl, (k, subst (λ (fs : List (List ℕ)). slice_get fs k ≡ Some u.name) names get, at ∙ ap (λ (n : ℕ). n + k) end)))
    ]),
    (λ (p, target). elim target [
      | inl (is, low, uses) ↦ (in_whole u).1 (inl ((in_parts u).1 (
        omega (arith, is, low, end),
        subst (λ (xs : List Spot). UsesAt xs u.number u.name) (sym same) (subst (λ (q : ℕ). UsesAt (spots t) q u.name) (sym is) uses),
      )))
      | inr (is, (k, get, at)) ↦ (in_whole u).1 (inr (k, subst (λ (fs : List (List ℕ)). slice_get fs k ≡ Some u.name) (sym names) get, at ∙ ap (λ (n : ℕ). n + k) (sym end)))
    ]),
  )

  point_of_target : (x : List ℕ) (p v : ℕ) → IsTargetAt t x p v → point_of (exit_of t) v ≡ p
  point_of_target x p v (inl (is, low, uses)) = point_low (exit_of t) v (omega (arith, is, low)) ∙ is
  point_of_target x p v (inr (is, (k, get, at))) = point_high (exit_of t) v (omega (arith, at)) ∙ sym is

  target_of_use : (x : List ℕ) (p : ℕ) → UsesAt (spots t) p x → (v : ℕ) × IsTargetAt t x p v
  target_of_use x p uses = elim (cases_lt p (exit_of t)) [
    | inl low ↦ (p, inl (refl, low, uses))
    | inr high ↦ (let at : p ≡ exit_of t = omega (arith, high, uses_within (spots t) p x uses, count_whole t) in
        let k = place_of t.finals x (uses_exit t x (subst (λ (n : ℕ). UsesAt (spots t) n x) at uses)) in
        (exit_of t + k.0, inr (at, (k.0, k.1, refl))))
  ]

  module _ (uses : List Use) (are : AreUses t uses) where
    -- no point has two uses of a name
    pub uses_apart : IsProgram t → AreApart (exit_of t) uses
    uses_apart prog x v w hv hw e =
        let (p, a) = (are (use_of x v)).0 hv in
        let (q, b) = (are (use_of x w)).0 hw in
        one p q a b (sym (point_of_target x p v a) ∙ e ∙ point_of_target x q w b)
      where
        one : (p q : ℕ) → IsTargetAt t x p v → IsTargetAt t x q w → p ≡ q → v ≡ w
        one p q (inl (is, low, at)) (inl (is', low', at')) same = is ∙ same ∙ sym is'
        one p q (inl (is, low, at)) (inr (is', rest)) same = absurd (omega (arith, low, same, is'))
        one p q (inr (is, rest)) (inl (is', low', at')) same = absurd (omega (arith, low', same, is))
        one p q (inr (is, (k, get, at))) (inr (is', (j, get', at'))) same =
            let k_is : k ≡ j = finals_once t prog k j x get get' in
            omega (arith, at, at', k_is)

    pub used_at : (x : List ℕ) (p : ℕ) → IsUsedFrom (exit_of t) uses x p ↔ UsesAt (spots t) p x
    used_at x p = (
      (λ (v, has, is). (let (q, target) = (are (use_of x v)).0 has in
          let same : q ≡ p = sym (point_of_target x q v target) ∙ is in
          subst (λ (n : ℕ). UsesAt (spots t) n x) same (target_uses t x q v target))),
      (λ h. (let (v, target) = target_of_use x p h in (v, (are (use_of x v)).1 (p, target), point_of_target x p v target))),
    )

    pub used_names : (x : List ℕ) → ((u : Use) × Contains uses u × (u.name ≡ x)) ↔ ((p : ℕ) × UsesAt (spots t) p x)
    used_names x = (
      (λ (u, has, is). (let (p, target) = (are u).0 has in (p, subst (λ (y : List ℕ). UsesAt (spots t) p y) is (target_uses t u.name p u.number target)))),
      (λ (p, h). (let (v, target) = target_of_use x p h in (use_of x v, (are (use_of x v)).1 (p, target), refl))),
    )

    -- the numbers of the names of `end`
    pub ends_are : (names : List (List ℕ)) (numbers : List ℕ) → AreEndsBy (exit_of t) uses names numbers → AreFinalNumbers (exit_of t) t.finals names numbers
    ends_are names numbers ends i x get = (
      (ends i x get).0,
      λ k there. (ends i x get).1 (exit_of t + k) (omega arith) ((are (use_of x (exit_of t + k))).1 (exit_of t, inr (refl, (k, there, refl)))),
    )

-- ---- the rows of the points, one use more

module _ (exit : ℕ) (uses : List Use) (k : ℕ) (u : Use) (l : k < length uses) (is : u ≡ get_or uses k u) where
  here : Contains uses u
  here = taken_among uses (k + 1) u ((taken_item uses k u u l is).1 (inr refl))

  pub used_more : (point : ℕ) → point ≡ point_of exit u.number → (x : List ℕ) (p : ℕ) (A A' : Type 0) → A' ↔ (A ⊎ ((u.name ≡ x) × (point ≡ p))) → A ↔ IsUsedFrom exit (take k uses) x p → A' ↔ IsUsedFrom exit (take (k + 1) uses) x p
  used_more point at x p A A' new old = (
    (λ h. elim (new.0 h) [
      | inl a ↦ (let (v, has, e) = old.0 a in (v, (taken_item uses k u (use_of x v) l is).1 (inl has), e))
      | inr (name, e) ↦ (u.number, (taken_item uses k u (use_of x u.number) l is).1 (inr (sym (use_is x u.number u (sym name) refl))), sym at ∙ e)
    ]),
    (λ (v, has, e). elim ((taken_item uses k u (use_of x v) l is).0 has) [
      | inl was ↦ new.1 (inl (old.1 (v, was, e)))
      | inr same ↦ new.1 (inr (
        ap (λ (w : Use). w.name) same,
        at ∙ ap (λ (w : Use). point_of exit w.number) same ∙ e,
      ))
    ]),
  )

  -- a use by name is one of a list
  named : (x : List ℕ) (us : List Use) → u.name ≡ x → Contains us u → Contains us (use_of x u.number)
  named x us name h = subst (λ (w : Use). Contains us w) (sym (use_is x u.number u (sym name) refl)) h

  pub unused : IsOnce uses → AreApart exit uses → (point : ℕ) → point ≡ point_of exit u.number → (x : List ℕ) (A : Type 0) → A ↔ IsUsedFrom exit (take k uses) x point → u.name ≡ x → ¬ A
  unused once apart point at x A old name h =
      let (v, has, e) = old.0 h in
      let same : v ≡ u.number = apart x v u.number (taken_among uses k (use_of x v) has) (named x uses name here) (e ∙ at) in
      not_before uses k u once l is (subst (λ (w : Use). Contains (take k uses) w) (use_is x v u (sym name) same) has)

  -- ---- the numbers of the names of `end`, one use more
  pub end_more : AreApart exit uses → (names : List (List ℕ)) (numbers numbers' : List ℕ)
      → (exit ≤ u.number → (i : ℕ) → slice_get names i ≡ Some u.name → get_or numbers' i 0 ≡ u.number)
      → (u.number < exit → numbers' ≡ numbers)
      → ((i : ℕ) → ¬ (slice_get names i ≡ Some u.name) → get_or numbers' i 0 ≡ get_or numbers i 0)
      → AreEndsBy exit (take k uses) names numbers → AreEndsBy exit (take (k + 1) uses) names numbers'
  end_more apart names numbers numbers' at_end at_part others before i x get = elim (cases_name u.name x) [
    | inl e ↦ named_end e
    | inr ne ↦ kept (others i (λ g. ne (same_Some u.name x (sym g ∙ get)))) (λ v has. earlier ne v has)
  ]
    where
      kept : get_or numbers' i 0 ≡ get_or numbers i 0 → ((v : ℕ) → Contains (take (k + 1) uses) (use_of x v) → exit ≤ v → Contains (take k uses) (use_of x v))
          → (exit ≤ get_or numbers' i 0) × ((v : ℕ) → exit ≤ v → Contains (take (k + 1) uses) (use_of x v) → get_or numbers' i 0 ≡ v)
      kept same back = let was = before i x get in (omega (arith, same, was.0), λ v high has. same ∙ was.1 v high (back v has high))

      earlier : (u.name ≡ x → ⊥) → (v : ℕ) → Contains (take (k + 1) uses) (use_of x v) → exit ≤ v → Contains (take k uses) (use_of x v)
      earlier ne v has high = elim ((taken_item uses k u (use_of x v) l is).0 has) [ inl was ↦ was | inr e ↦ absurd (ne (ap (λ (w : Use). w.name) e)) ]

      named_end : u.name ≡ x → (exit ≤ get_or numbers' i 0) × ((v : ℕ) → exit ≤ v → Contains (take (k + 1) uses) (use_of x v) → get_or numbers' i 0 ≡ v)
      named_end name = elim (cases_lt u.number exit) [
        | inl low ↦ kept (ap (λ (ns : List ℕ). get_or ns i 0) (at_part low)) (λ v has high. elim ((taken_item uses k u (use_of x v) l is).0 has) [
          | inl was ↦ was
          | inr e ↦ absurd (let same : u.number ≡ v = ap (λ (w : Use). w.number) e in omega (arith, same, low, high))
        ])
        | inr high ↦ (let at : get_or numbers' i 0 ≡ u.number = at_end high i (get ∙ ap (λ (y : List ℕ). Some y) (sym name)) in
            (omega (arith, at, high), λ v up has. at ∙ apart x u.number v (named x uses name here) (taken_among uses (k + 1) (use_of x v) has) (point_high exit u.number high ∙ sym (point_high exit v up))))
      ]

-- with no use so far, each number is Exit's
pub no_ends : (exit : ℕ) (names : List (List ℕ)) (numbers : List ℕ) → numbers ≡ replicate (length names) exit → AreEndsBy exit [] names numbers
no_ends exit names numbers is i x get =
    let at : get_or numbers i 0 ≡ exit = ap (λ (ns : List ℕ). get_or ns i 0) is ∙ get_or-replicate (length names) i exit 0 (slice_get_within names i x get) in
    (omega (arith, at), λ v high has. absurd (in_none (use_of x v) has))

pub same_ends : (exit exit' : ℕ) (uses uses' : List Use) (names names' : List (List ℕ)) (numbers : List ℕ) → exit ≡ exit' → uses ≡ uses' → names ≡ names' → AreEndsBy exit uses names numbers → AreEndsBy exit' uses' names' numbers
same_ends exit exit' uses uses' names names' numbers e u n are =
    subst (λ (ns : List (List ℕ)). AreEndsBy exit' uses' ns numbers) n
    (subst (λ (us : List Use). AreEndsBy exit' us names numbers) u (subst (λ (end : ℕ). AreEndsBy end uses names numbers) e are))
