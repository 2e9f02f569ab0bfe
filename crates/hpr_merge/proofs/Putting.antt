-- Links that are put at places which have none, along steps.
use Rattle.std.proofs.Common.{◌≡◌, ℕ, zero, suc, ◌+◌, ◌<◌, ◌≤◌, ◌↔◌, ◌⊎◌, inl, inr, Option, Some, None, List, []}
use Rattle.std.proofs.Common.{◌∷◌, ◌++◌, length, get_or, set, take, replicate, Contains, slice_get, refl, sym, ap, ◌∙◌, subst, arith, length-set}
use Rattle.std.proofs.lemmas.Bool.{cases_eq}
use Rattle.std.proofs.lemmas.List.{length_push, take_more, take_all}
use Rattle.std.proofs.lemmas.List.Elements.{Contains-push, Contains-push_cases, Contains-append_left, Contains-append_right, Contains-append_cases}
use Rattle.std.proofs.lemmas.List.Sums.{sum_by-set}
use Rattle.std.proofs.lemmas.Option.{slice_get_within, get_or_from_slice_get}
use Rattle.hpr_terms.proofs.Facts.{get_below, at_end}
use Rattle.hpr_search.specs.Rows.{numbers_at, IsPushed}
use Rattle.hpr_search.specs.Walks.{Walk}
use Rattle.hpr_search.proofs.Turns.{walk_more}
use Rattle.hpr_graph.specs.declared.link.Link.{Link}
use Rattle.hpr_graph.proofs.Lists.{some_inj, in_none, in_cons, in_here, in_taken, contains_at, get_longer, at_push, get_set_same, get_set_other}
use Rattle.hpr_merge.specs.Firsts.{AreFirstsFrom, ArePut, HasOne, IsClosedUnder, IsPutAt, Leads, none_count, none_weight}

-- what stands stays, and where none stands none stood
module _ (P : ℕ → Type 0) (c : ℕ × Link) (old new : List (Option (ℕ × Link))) (put : IsPutAt P c old new) where
  pub one_stays : (x : ℕ) → HasOne old x → HasOne new x
  one_stays x (d, at) = (d, put.kept x d at)

  pub blank_before : (x : ℕ) → slice_get new x ≡ Some None → slice_get old x ≡ Some None
  blank_before x none =
      let within = slice_get_within new x None none in
      let count = put.count in
      let (o, at) = get_below old x (omega (arith, within, count)) in
      blank o at
    where
      blank : (o : Option (ℕ × Link)) → slice_get old x ≡ Some o → slice_get old x ≡ Some None
      blank None at = at
      blank (Some d) at = absurd (let there = sym none ∙ put.kept x d at in cc)

  pub put_wider : (Q : ℕ → Type 0) → ((x : ℕ) → P x → Q x) → IsPutAt Q c old new
  put_wider Q wider = record {
    count = put.count;
    kept = put.kept;
    only = λ x d at. elim (put.only x d at) [ inl was ↦ inl was | inr (none, same, p) ↦ inr (none, same, wider x p) ];
  }

pub put_none : (P : ℕ → Type 0) (c : ℕ × Link) (os : List (Option (ℕ × Link))) → IsPutAt P c os os
put_none P c os = record { count = refl; kept = λ x d at. at; only = λ x d at. inl at }

pub put_both : (P : ℕ → Type 0) (c : ℕ × Link) (old now new : List (Option (ℕ × Link))) → IsPutAt P c old now → IsPutAt P c now new → IsPutAt P c old new
put_both P c old now new a b = record {
  count = b.count ∙ a.count;
  kept = λ x d at. b.kept x d (a.kept x d at);
  only = λ x d at. elim (b.only x d at) [ inl was ↦ a.only x d was | inr (none, same, p) ↦ inr (blank_before P c old now a x none, same, p) ];
}

-- no point, one point, and some after others
pub none_put : (c : ℕ × Link) (os : List (Option (ℕ × Link))) (ws : List ℕ) → ArePut [] c os os ws ws
none_put c os ws = record {
  put = put_none (Contains []) c os;
  all = λ x h. absurd (in_none x h);
  kept = λ x h. h;
  only = λ x h. inl h;
  put_wait = λ x none (d, at). absurd (let both = sym none ∙ at in cc);
  left = refl;
}

in_one : (p x : ℕ) → Contains (p ∷ []) x → p ≡ x
in_one p x h = elim (in_cons p x [] h) [ inl e ↦ e | inr none ↦ absurd (in_none x none) ]

module _ (c : ℕ × Link) (p : ℕ) (os : List (Option (ℕ × Link))) (ws : List ℕ) where
  pub one_kept : (d : ℕ × Link) → slice_get os p ≡ Some (Some d) → ArePut (p ∷ []) c os os ws ws
  one_kept d there = record {
    put = put_none (Contains (p ∷ [])) c os;
    all = λ x h. (d, ap (slice_get os) (sym (in_one p x h)) ∙ there);
    kept = λ x h. h;
    only = λ x h. inl h;
    put_wait = λ x none (e, at). absurd (let both = sym none ∙ at in cc);
    left = refl;
  }

  module _ (within : p < length os) (none : slice_get os p ≡ Some None) where
    elsewhere : (x : ℕ) (o : Option (ℕ × Link)) → (x ≡ p → ⊥) → slice_get (set os p (Some c)) x ≡ slice_get os x
    elsewhere x o ne = get_set_other os p x (Some c) ne

    here : slice_get (set os p (Some c)) p ≡ Some (Some c)
    here = get_set_same os p (Some c) within

    weights : none_count (set os p (Some c)) + 1 ≡ none_count os
    weights =
        let sums = sum_by-set none_weight os p (Some c) None within in
        let was : none_weight (get_or os p None) ≡ 1 = ap none_weight (get_or_from_slice_get os p None None none) in
        omega (arith, sums, was)

    pub one_put : ArePut (p ∷ []) c os (set os p (Some c)) ws (ws ++ p ∷ [])
    one_put = record {
      put = record {
        count = length-set os p (Some c);
        kept = λ x d at. elim (cases_eq x p) [
          | inl e ↦ absurd (let both = sym none ∙ ap (slice_get os) (sym e) ∙ at in cc)
          | inr ne ↦ elsewhere x None ne ∙ at
        ];
        only = λ x d at. elim (cases_eq x p) [
          | inl e ↦ inr (
            ap (slice_get os) e ∙ none,
            some_inj d c (some_inj (Some d) (Some c) (sym at ∙ ap (slice_get (set os p (Some c))) e ∙ here)),
            subst (Contains (p ∷ [])) (sym e) (in_here p []),
          )
          | inr ne ↦ inl (sym (elsewhere x None ne) ∙ at)
        ];
      };
      all = λ x h. (c, ap (slice_get (set os p (Some c))) (sym (in_one p x h)) ∙ here);
      kept = λ x h. Contains-append_left ws (p ∷ []) x h;
      only = λ x h. Contains-append_cases ws (p ∷ []) x h;
      put_wait = λ x blank (d, at). elim (cases_eq x p) [
        | inl e ↦ subst (Contains (ws ++ p ∷ [])) (sym e) (Contains-push ws p)
        | inr ne ↦ absurd (let both = sym blank ∙ sym (elsewhere x None ne) ∙ at in cc)
      ];
      left = let count = length_push ws p in omega (arith, weights, count);
    }

pub put_then : (ps qs : List ℕ) (c : ℕ × Link) (old now new : List (Option (ℕ × Link))) (before between after : List ℕ)
    → ArePut ps c old now before between → ArePut qs c now new between after → ArePut (ps ++ qs) c old new before after
put_then ps qs c old now new before between after a b = record {
  put = put_both (Contains (ps ++ qs)) c old now new
      (put_wider (Contains ps) c old now a.put (Contains (ps ++ qs)) (λ x h. Contains-append_left ps qs x h))
      (put_wider (Contains qs) c now new b.put (Contains (ps ++ qs)) (λ x h. Contains-append_right ps qs x h));
  all = λ x h. elim (Contains-append_cases ps qs x h) [ inl first ↦ one_stays (Contains qs) c now new b.put x (a.all x first) | inr then ↦ b.all x then ];
  kept = λ x h. b.kept x (a.kept x h);
  only = λ x h. elim (b.only x h) [
    | inl was ↦ elim (a.only x was) [ inl first ↦ inl first | inr of_one ↦ inr (Contains-append_left ps qs x of_one) ]
    | inr of_other ↦ inr (Contains-append_right ps qs x of_other)
  ];
  put_wait = λ x none has.
      (let within = slice_get_within old x None none in
      let count = a.put.count in
      let (o, at) = get_below now x (omega (arith, within, count)) in
      waits x none has o at);
  left = let first = a.left in let second = b.left in omega (arith, first, second);
}
  where
    waits : (x : ℕ) → slice_get old x ≡ Some None → HasOne new x → (o : Option (ℕ × Link)) → slice_get now x ≡ Some o → Contains after x
    waits x none has None at = b.put_wait x at has
    waits x none has (Some d) at = b.kept x (a.put_wait x none (d, at))

pub put_next : (ps : List ℕ) (i : ℕ) (c : ℕ × Link) (old now new : List (Option (ℕ × Link))) (before between after : List ℕ) → i < length ps
    → ArePut (take i ps) c old now before between → ArePut (get_or ps i 0 ∷ []) c now new between after → ArePut (take (i + 1) ps) c old new before after
put_next ps i c old now new before between after l a b =
    subst (λ (qs : List ℕ). ArePut qs c old new before after) (sym (take_more ps i 0 l))
    (put_then (take i ps) (get_or ps i 0 ∷ []) c old now new before between after a b)

pub put_whole : (ps : List ℕ) (i : ℕ) (c : ℕ × Link) (old new : List (Option (ℕ × Link))) (before after : List ℕ) → length ps ≤ i
    → ArePut (take i ps) c old new before after → ArePut ps c old new before after
put_whole ps i c old new before after all a = subst (λ (qs : List ℕ). ArePut qs c old new before after) (take_all i ps all) a

-- a search from the target of one link
pub record IsSpreading (steps : ℕ → List ℕ) (c : ℕ × Link) (old now : List (Option (ℕ × Link))) (waiting : List ℕ) : Type 0 where
  pub put : IsPutAt (Leads steps c.0) c old now
  pub waits : (x : ℕ) → Contains waiting x → HasOne now x × Leads steps c.0 x
  pub closed : (x y : ℕ) → HasOne now x → Contains (steps x) y → HasOne now y ⊎ Contains waiting x
  pub start : HasOne now c.0

module _ (steps : ℕ → List ℕ) (c : ℕ × Link) (old : List (Option (ℕ × Link))) where
  pub spread_start : (now : List (Option (ℕ × Link))) (none waiting : List ℕ) → none ≡ [] → IsClosedUnder steps old
      → ArePut (c.0 ∷ []) c old now none waiting → IsSpreading steps c old now waiting
  spread_start now none waiting blank closed a = record {
    put = put_wider (Contains (c.0 ∷ [])) c old now a.put (Leads steps c.0) (λ x h. ([], in_one c.0 x h));
    waits = λ x h. elim (a.only x h) [
      | inl of_none ↦ absurd (in_none x (subst (λ (xs : List ℕ). Contains xs x) blank of_none))
      | inr one ↦ (a.all x one, ([], in_one c.0 x one))
    ];
    closed = λ x y (d, at) h. elim (a.put.only x d at) [
      | inl was ↦ inl (one_stays (Contains (c.0 ∷ [])) c old now a.put y (closed x y (d, was) h))
      | inr (none_there, same, one) ↦ inr (a.put_wait x none_there (d, at))
    ];
    start = a.all c.0 (in_here c.0 []);
  }

  module _ (now new : List (Option (ℕ × Link))) (point : ℕ) (ws rest after : List ℕ) (popped : ws ≡ rest ++ point ∷ [])
      (s : IsSpreading steps c old now ws) (a : ArePut (steps point) c now new rest after) where
    waiting_in : (x : ℕ) → Contains (rest ++ point ∷ []) x → Contains ws x
    waiting_in x h = subst (λ (xs : List ℕ). Contains xs x) (sym popped) h

    on : (x : ℕ) → Contains (steps point) x → Leads steps c.0 x
    on x h = let (has, (via, walk)) = s.waits point (waiting_in point (Contains-push rest point)) in (via ++ x ∷ [], walk_more steps c.0 via point x walk h)

    stays : (x : ℕ) → HasOne now x → HasOne new x
    stays x h = one_stays (Contains (steps point)) c now new a.put x h

    pub spread_step : IsSpreading steps c old new after
    spread_step = record {
      put = put_both (Leads steps c.0) c old now new s.put (put_wider (Contains (steps point)) c now new a.put (Leads steps c.0) on);
      waits = λ x h. elim (a.only x h) [
        | inl was ↦ (let (has, leads) = s.waits x (waiting_in x (Contains-append_left rest (point ∷ []) x was)) in (stays x has, leads))
        | inr one ↦ (a.all x one, on x one)
      ];
      closed = λ x y (d, at) h. elim (a.put.only x d at) [
        | inl was ↦ elim (s.closed x y (d, was) h) [
          | inl has ↦ inl (stays y has)
          | inr waits ↦ elim (Contains-push_cases rest point x (subst (λ (xs : List ℕ). Contains xs x) popped waits)) [
            | inl still ↦ inr (a.kept x still)
            | inr here ↦ inl (a.all y (subst (λ (z : ℕ). Contains (steps z) y) (sym here) h))
          ]
        ]
        | inr (none_there, same, one) ↦ inr (a.put_wait x none_there (d, at))
      ];
      start = stays c.0 s.start;
    }

  pub spread_within : (now : List (Option (ℕ × Link))) (ws rest : List ℕ) (point : ℕ) → ws ≡ rest ++ point ∷ [] → IsSpreading steps c old now ws
      → point < length now
  spread_within now ws rest point popped s =
      let ((d, at), leads) = s.waits point (subst (λ (xs : List ℕ). Contains xs point) (sym popped) (Contains-push rest point)) in
      slice_get_within now point (Some d) at

  pub spread_closed : (now : List (Option (ℕ × Link))) (ws : List ℕ) → ws ≡ [] → IsSpreading steps c old now ws → IsClosedUnder steps now
  spread_closed now ws none s x y has h = elim (s.closed x y has h)
      [ inl there ↦ there | inr waits ↦ absurd (in_none x (subst (λ (xs : List ℕ). Contains xs x) none waits)) ]

-- the first links, one link more
closed_walk : (steps : ℕ → List ℕ) (os : List (Option (ℕ × Link))) → IsClosedUnder steps os → (a : ℕ) (via : List ℕ) (b : ℕ) → HasOne os a
    → Walk steps a via b → HasOne os b
closed_walk steps os closed a [] b has walk = subst (HasOne os) walk has
closed_walk steps os closed a (d ∷ via) b has walk = closed_walk steps os closed d via b (closed a d has walk.0) walk.1

module _ (steps : ℕ → List ℕ) (cs : List (ℕ × Link)) (c : ℕ × Link) (now new : List (Option (ℕ × Link))) (before : AreFirstsFrom steps cs now)
    (put : IsPutAt (Leads steps c.0) c now new) (closed : IsClosedUnder steps new) (there : HasOne new c.0) where
  pub firsts_more : AreFirstsFrom steps (cs ++ c ∷ []) new
  firsts_more x None at = λ d h (via, walk). elim (Contains-push_cases cs c d h) [
    | inl was ↦ before x None (blank_before (Leads steps c.0) c now new put x at) d was (via, walk)
    | inr same ↦ absurd
        (let (e, at') = closed_walk steps new closed c.0 via x there (subst (λ (z : ℕ × Link). Walk steps z.0 via x) (sym same) walk) in
        let both = sym at ∙ at' in cc)
  ]
  firsts_more x (Some d) at = elim (put.only x d at) [
    | inl was ↦
        (let (leads, (i, at_i, none)) = before x (Some d) was in
        let within = slice_get_within cs i d at_i in (
          leads,
          (
            i,
            get_longer cs (c ∷ []) i d at_i,
            λ j e l at_j. elim (at_push cs c j e at_j) [ inl earlier ↦ none j e l earlier | inr (place, is) ↦ absurd (omega (arith, place, l, within)) ],
          ),
        ))
    | inr (none_there, same, leads) ↦ (
      subst (λ (z : ℕ × Link). Leads steps z.0 x) (sym same) leads,
      (
        length cs,
        at_end cs c ∙ ap Some (sym same),
        λ j e l at_j leads'. elim (at_push cs c j e at_j) [
          | inl earlier ↦ before x None none_there e (contains_at cs j e earlier) leads'
          | inr (place, is) ↦ omega (arith, place, l)
        ],
      ),
    )
  ]

pub firsts_next : (steps : ℕ → List ℕ) (cs : List (ℕ × Link)) (i : ℕ) (d : ℕ × Link) (now new : List (Option (ℕ × Link))) → i < length cs
    → AreFirstsFrom steps (take i cs) now → IsPutAt (Leads steps (get_or cs i d).0) (get_or cs i d) now new → IsClosedUnder steps new
    → HasOne new (get_or cs i d).0
    → AreFirstsFrom steps (take (i + 1) cs) new
firsts_next steps cs i d now new l before put closed there =
    subst (λ (xs : List (ℕ × Link)). AreFirstsFrom steps xs new) (sym (take_more cs i d l))
    (firsts_more steps (take i cs) (get_or cs i d) now new before put closed there)

pub firsts_whole : (steps : ℕ → List ℕ) (cs : List (ℕ × Link)) (i : ℕ) (os : List (Option (ℕ × Link))) → length cs ≤ i
    → AreFirstsFrom steps (take i cs) os → AreFirstsFrom steps cs os
firsts_whole steps cs i os all a = subst (λ (xs : List (ℕ × Link)). AreFirstsFrom steps xs os) (take_all i cs all) a

-- where nothing stands yet
blank_at : {X : Type 0} → (n i : ℕ) (x y : X) → slice_get (replicate n x) i ≡ Some y → x ≡ y
blank_at zero i x y at = absurd cc
blank_at (suc n) zero x y at = some_inj x y at
blank_at (suc n) (suc i) x y at = blank_at n i x y at

-- rows of steps, one step more
pub rows_more : (steps : List (ℕ × ℕ)) (i : ℕ) (rows more : List (List ℕ)) → i < length steps
    → ((from to : ℕ) → Contains (numbers_at rows from) to ↔ Contains (take i steps) (from, to))
    → IsPushed rows (get_or steps i (0, 0)).0 (get_or steps i (0, 0)).1 more
    → (from to : ℕ) → Contains (numbers_at more from) to ↔ Contains (take (i + 1) steps) (from, to)
rows_more steps i rows more l before pushed from to = (
  λ h. elim ((pushed from to).0 h) [
    | inl was ↦ (in_taken {X = ℕ × ℕ} steps i (0, 0) (from, to) l).1 (inl ((before from to).0 was))
    | inr (f, t) ↦ (in_taken {X = ℕ × ℕ} steps i (0, 0) (from, to) l).1 (inr (pair f t))
  ],
  λ h. elim ((in_taken {X = ℕ × ℕ} steps i (0, 0) (from, to) l).0 h) [
    | inl was ↦ (pushed from to).1 (inl ((before from to).1 was))
    | inr same ↦ (pushed from to).1 (inr (sym (ap (λ (s : ℕ × ℕ). s.0) same), sym (ap (λ (s : ℕ × ℕ). s.1) same)))
  ],
)
  where
    pair : from ≡ (get_or steps i (0, 0)).0 → to ≡ (get_or steps i (0, 0)).1 → get_or steps i (0, 0) ≡ (from, to)
    pair f t =
        let s : ℕ × ℕ = get_or steps i (0, 0) in
        let first : ◌≡◌ {A = ℕ × ℕ} s (from, s.1) = subst (λ (x : ℕ). ◌≡◌ {A = ℕ × ℕ} s (x, s.1)) (sym f) refl in
        subst (λ (y : ℕ). ◌≡◌ {A = ℕ × ℕ} s (from, y)) (sym t) first

pub rows_whole : (steps : List (ℕ × ℕ)) (i : ℕ) (rows : List (List ℕ)) → length steps ≤ i
    → ((from to : ℕ) → Contains (numbers_at rows from) to ↔ Contains (take i steps) (from, to)) → (from to : ℕ)
    → Contains (numbers_at rows from) to ↔ Contains steps (from, to)
rows_whole steps i rows all a = subst (λ (xs : List (ℕ × ℕ)). (from to : ℕ) → Contains (numbers_at rows from) to ↔ Contains xs (from, to))
    (take_all i steps all) a
