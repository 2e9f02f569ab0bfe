-- What is decided of a tree: its parts and what they say, its pairs, and where parts stand to one another.
use Rattle.std.proofs.Common.{◌≡◌, ◌↔◌, ◌⊎◌, inl, inr, ℕ, Bool, true, false, Option, Some, None, List, [], ◌∷◌, ◌++◌, Contains, refl, sym, ap, subst}
use Rattle.std.proofs.lemmas.List.Elements.{Contains-append_left, Contains-append_right, Contains-append_cases}
use Rattle.hpr_terms.specs.declared.tag.Tag.{Tag}
use Rattle.hpr_syntax.specs.declared.rows.Content.{Content}
use Rattle.hpr_syntax.specs.declared.rows.Content.TheVariants.{If, While}
use Rattle.hpr_syntax.specs.Body.{Body, done, action, branch, loop}
use Rattle.hpr_syntax.specs.Contents.{UsesIn, used_names}
use Rattle.hpr_syntax.specs.Initial.{UsedBy}
use Rattle.hpr_syntax.specs.Nests.{Standing, StandsAs, StandsAsIn, Says}
use Rattle.hpr_syntax.specs.Pairs.{Next, first_of, FollowsIn, IsPair}
use Rattle.hpr_syntax.specs.Paths.{DefinesAt}
use Rattle.hpr_syntax.specs.Places.{StandsLeft, Parted, EnclosesBoth}
use Rattle.hpr_syntax.specs.Rows.{Parent, content_by, assigned}
use Rattle.hpr_syntax.specs.Skeleton.{Skeleton, nil, act, fork, round, Point, enter, at, exit, StandsIn, skeleton}
use Rattle.hpr_syntax.specs.Tree.{Tree}
use Rattle.hpr_graph.specs.declared.vertex.Vertex.TheVariants.{Init, Part}
use Rattle.hpr_terms.proofs.Facts.{some_inj, in_none, in_cons, in_here, in_later}
use Rattle.hpr_syntax.proofs.ActByUses.{uses_in}
use Rattle.hpr_paths.proofs.Says.{says_of_standing, standing_of_says}
use Rattle.hpr_paths.proofs.SkeletonTags.{tag_discrete, same_at}
use Rattle.hpr_closure.proofs.Decided.{Decided, both, vertex_decided}
use Rattle.hpr_closure.proofs.Decisions.{either, turned, some_decided}

-- equality
tag_by : (s t : Tag) → Dec (s ≡ t) → Decided (s ≡ t)
tag_by s t (yes e) = inl e
tag_by s t (no n) = inr n

pub tag_decided : (s t : Tag) → Decided (s ≡ t)
tag_decided s t = tag_by s t (tag_discrete s t)

pub point_decided : (p q : Point) → Decided (p ≡ q)
point_decided enter enter = inl refl
point_decided enter (at t) = inr (λ e. cc)
point_decided enter exit = inr (λ e. cc)
point_decided (at t) enter = inr (λ e. cc)
point_decided (at t) (at u) = turned (t ≡ u) (at t ≡ at u) (ap (λ (v : Tag). at v)) same_at (tag_decided t u)
point_decided (at t) exit = inr (λ e. cc)
point_decided exit enter = inr (λ e. cc)
point_decided exit (at t) = inr (λ e. cc)
point_decided exit exit = inl refl

init_name : (x y : List ℕ) → Init x ≡ Init y → x ≡ y
init_name x y e = cc

pub name_decided : (x y : List ℕ) → Decided (x ≡ y)
name_decided x y = turned (Init x ≡ Init y) (x ≡ y) (init_name x y) (ap (λ (z : List ℕ). Init z)) (vertex_decided (Init x) (Init y))

part_content : (t : Tag) (c d : Content) → Part t c ≡ Part t d → c ≡ d
part_content t c d e = cc

pub content_decided : (c d : Content) → Decided (c ≡ d)
content_decided c d =
    let t : Tag = record { author = 0; serial = 0 } in
    turned (Part t c ≡ Part t d) (c ≡ d) (part_content t c d) (ap (λ (k : Content). Part t k)) (vertex_decided (Part t c) (Part t d))

bool_decided : (a b : Bool) → Decided (a ≡ b)
bool_decided true true = inl refl
bool_decided true false = inr (λ e. cc)
bool_decided false true = inr (λ e. cc)
bool_decided false false = inl refl

pub truth_decided : (a : Bool) → Decided (a ≡ true)
truth_decided a = bool_decided a true

some_name_decided : (o : Option (List ℕ)) (x : List ℕ) → Decided (o ≡ Some x)
some_name_decided None x = inr (λ e. cc)
some_name_decided (Some y) x = turned (y ≡ x) (Some y ≡ Some x) (ap (λ (z : List ℕ). Some z)) (some_inj y x) (name_decided y x)

pub assigned_decided : (c : Content) (x : List ℕ) → Decided (assigned c ≡ Some x)
assigned_decided c x = some_name_decided (assigned c) x

pub top_decided : (p : Parent) → Decided (p ≡ None)
top_decided None = inl refl
top_decided (Some p) = inr (λ e. cc)

abbrev under : Tag → Bool → Parent
under t a = Some (t, a)

abbrev tag_under : Parent → Tag → Tag
tag_under None t = t
tag_under (Some p) t = p.0

abbrev label_under : Parent → Bool
label_under None = true
label_under (Some p) = p.1

parent_tag : (t u : Tag) (a b : Bool) → under t a ≡ under u b → t ≡ u
parent_tag t u a b e = ap (λ (p : Parent). tag_under p t) e

parent_label : (t u : Tag) (a b : Bool) → under t a ≡ under u b → a ≡ b
parent_label t u a b e = ap label_under e

pub parent_decided : (p : Parent) (t : Tag) (b : Bool) → Decided (p ≡ under t b)
parent_decided None t b = inr (λ e. cc)
parent_decided (Some (u, c)) t b =
    turned ((u ≡ t) × (c ≡ b)) (under u c ≡ under t b) (λ (e, f) i. under (e i) (f i)) (λ e. (parent_tag u t c b e, parent_label u t c b e))
    (both (u ≡ t) (c ≡ b) (tag_decided u t) (bool_decided c b))

pub mark_decided : (m : Option Tag) (t : Tag) → Decided (m ≡ Some t)
mark_decided None t = inr (λ e. cc)
mark_decided (Some u) t = turned (u ≡ t) (Some u ≡ Some t) (ap (λ (v : Tag). Some v)) (some_inj u t) (tag_decided u t)

pub names_decided : (xs : List (List ℕ)) (x : List ℕ) → Decided (Contains xs x)
names_decided xs x = elim (some_decided (λ (y : List ℕ). y ≡ x) (λ y. name_decided y x) xs) [
  | inl (y, h, is) ↦ inl (subst (λ (z : List ℕ). Contains xs z) is h)
  | inr none ↦ inr (λ h. none x h refl)
]

pub uses_decided : (c : Content) (x : List ℕ) → Decided (UsesIn c x)
uses_decided c x = turned (Contains (used_names c) x) (UsesIn c x) (uses_in c x).0 (uses_in c x).1 (names_decided (used_names c) x)

-- where parts stand
pub stands_decided : (sk : Skeleton) (p : Point) → Decided (StandsIn sk p)
stands_decided nil p = inr (λ h. h)
stands_decided (act t k) p = either (p ≡ at t) (StandsIn k p) (point_decided p (at t)) (stands_decided k p)
stands_decided (fork t b c k) p =
    either (p ≡ at t) (StandsIn b p ⊎ (StandsIn c p ⊎ StandsIn k p)) (point_decided p (at t))
    (either (StandsIn b p) (StandsIn c p ⊎ StandsIn k p) (stands_decided b p) (either (StandsIn c p) (StandsIn k p) (stands_decided c p) (stands_decided k p)))
stands_decided (round t b k) p =
    either (p ≡ at t) (StandsIn b p ⊎ StandsIn k p) (point_decided p (at t)) (either (StandsIn b p) (StandsIn k p) (stands_decided b p) (stands_decided k p))

module _ (d u : Point) where
  pub left_decided : (sk : Skeleton) → Decided (StandsLeft sk d u)
  left_decided nil = inr (λ h. h)
  left_decided (act t k) =
      either ((d ≡ at t) × StandsIn k u) (StandsLeft k d u) (both (d ≡ at t) (StandsIn k u) (point_decided d (at t)) (stands_decided k u)) (left_decided k)
  left_decided (fork t b c k) =
      either ((d ≡ at t) × (StandsIn b u ⊎ (StandsIn c u ⊎ StandsIn k u)))
      ((StandsIn b d × (StandsIn c u ⊎ StandsIn k u)) ⊎ ((StandsIn c d × StandsIn k u) ⊎ (StandsLeft b d u ⊎ (StandsLeft c d u ⊎ StandsLeft k d u))))
      (both (d ≡ at t) (StandsIn b u ⊎ (StandsIn c u ⊎ StandsIn k u)) (point_decided d (at t))
      (either (StandsIn b u) (StandsIn c u ⊎ StandsIn k u) (stands_decided b u) (either (StandsIn c u) (StandsIn k u) (stands_decided c u) (stands_decided k u))))
      (either (StandsIn b d × (StandsIn c u ⊎ StandsIn k u)) ((StandsIn c d × StandsIn k u) ⊎ (StandsLeft b d u ⊎ (StandsLeft c d u ⊎ StandsLeft k d u)))
      (both (StandsIn b d) (StandsIn c u ⊎ StandsIn k u) (stands_decided b d) (either (StandsIn c u) (StandsIn k u) (stands_decided c u) (stands_decided k u)))
      (either (StandsIn c d × StandsIn k u) (StandsLeft b d u ⊎ (StandsLeft c d u ⊎ StandsLeft k d u)) (both (StandsIn c d) (StandsIn k u) (stands_decided c d) (stands_decided k u))
      (either (StandsLeft b d u) (StandsLeft c d u ⊎ StandsLeft k d u) (left_decided b) (either (StandsLeft c d u) (StandsLeft k d u) (left_decided c) (left_decided k)))))
  left_decided (round t b k) =
      either ((d ≡ at t) × (StandsIn b u ⊎ StandsIn k u)) ((StandsIn b d × StandsIn k u) ⊎ (StandsLeft b d u ⊎ StandsLeft k d u))
      (both (d ≡ at t) (StandsIn b u ⊎ StandsIn k u) (point_decided d (at t)) (either (StandsIn b u) (StandsIn k u) (stands_decided b u) (stands_decided k u)))
      (either (StandsIn b d × StandsIn k u) (StandsLeft b d u ⊎ StandsLeft k d u) (both (StandsIn b d) (StandsIn k u) (stands_decided b d) (stands_decided k u))
      (either (StandsLeft b d u) (StandsLeft k d u) (left_decided b) (left_decided k)))

  pub parted_decided : (sk : Skeleton) → Decided (Parted sk d u)
  parted_decided nil = inr (λ h. h)
  parted_decided (act t k) = parted_decided k
  parted_decided (fork t b c k) =
      either ((StandsIn b d × StandsIn c u) ⊎ (StandsIn c d × StandsIn b u)) (Parted b d u ⊎ (Parted c d u ⊎ Parted k d u))
      (either (StandsIn b d × StandsIn c u) (StandsIn c d × StandsIn b u) (both (StandsIn b d) (StandsIn c u) (stands_decided b d) (stands_decided c u))
      (both (StandsIn c d) (StandsIn b u) (stands_decided c d) (stands_decided b u)))
      (either (Parted b d u) (Parted c d u ⊎ Parted k d u) (parted_decided b) (either (Parted c d u) (Parted k d u) (parted_decided c) (parted_decided k)))
  parted_decided (round t b k) = either (Parted b d u) (Parted k d u) (parted_decided b) (parted_decided k)

  pub encloses_decided : (sk : Skeleton) (w : Tag) → Decided (EnclosesBoth sk d u w)
  encloses_decided nil w = inr (λ h. h)
  encloses_decided (act t k) w = encloses_decided k w
  encloses_decided (fork t b c k) w =
      either (EnclosesBoth b d u w) (EnclosesBoth c d u w ⊎ EnclosesBoth k d u w) (encloses_decided b w)
      (either (EnclosesBoth c d u w) (EnclosesBoth k d u w) (encloses_decided c w) (encloses_decided k w))
  encloses_decided (round t b k) w =
      either ((w ≡ t) × ((d ≡ at t) ⊎ StandsIn b d) × ((u ≡ at t) ⊎ StandsIn b u)) (EnclosesBoth b d u w ⊎ EnclosesBoth k d u w)
      (turned ((w ≡ t) × (((d ≡ at t) ⊎ StandsIn b d) × ((u ≡ at t) ⊎ StandsIn b u))) ((w ≡ t) × ((d ≡ at t) ⊎ StandsIn b d) × ((u ≡ at t) ⊎ StandsIn b u))
      (λ (a, (e, f)). (a, e, f)) (λ (a, e, f). (a, (e, f)))
      (both (w ≡ t) (((d ≡ at t) ⊎ StandsIn b d) × ((u ≡ at t) ⊎ StandsIn b u)) (tag_decided w t)
      (both ((d ≡ at t) ⊎ StandsIn b d) ((u ≡ at t) ⊎ StandsIn b u) (either (d ≡ at t) (StandsIn b d) (point_decided d (at t)) (stands_decided b d))
      (either (u ≡ at t) (StandsIn b u) (point_decided u (at t)) (stands_decided b u)))))
      (either (EnclosesBoth b d u w) (EnclosesBoth k d u w) (encloses_decided b w) (encloses_decided k w))

-- the pairs, listed
abbrev pub Hop : Type 0
Hop = Point × Next

abbrev pub followers : Skeleton → Next → List Hop
followers nil n = []
followers (act t k) n = (at t, first_of k n) ∷ followers k n
followers (fork t b c k) n =
    (at t, first_of b (first_of k n)) ∷ ((at t, first_of c (first_of k n)) ∷ (followers b (first_of k n) ++ (followers c (first_of k n) ++ followers k n)))
followers (round t b k) n = (at t, first_of b (at t, Some t)) ∷ ((at t, first_of k n) ∷ (followers b (at t, Some t) ++ followers k n))

abbrev from_to : Point → Next → Hop
from_to a y = (a, y)

abbrev next : Point → Option Tag → Next
next z m = (z, m)

hop : (a : Point) (t : Tag) (y : Next) (z : Point) (m : Option Tag) → a ≡ at t → next z m ≡ y → from_to (at t) y ≡ from_to a (z, m)
hop a t y z m e f = (λ i. (sym e i, sym f i))

hop_start : (a : Point) (t : Tag) (y : Next) (z : Point) (m : Option Tag) → from_to (at t) y ≡ from_to a (z, m) → a ≡ at t
hop_start a t y z m e = sym (ap (λ (h : Hop). h.0) e)

hop_end : (a : Point) (t : Tag) (y : Next) (z : Point) (m : Option Tag) → from_to (at t) y ≡ from_to a (z, m) → next z m ≡ y
hop_end a t y z m e = sym (ap (λ (h : Hop). h.1) e)

first_hop : (f : Hop) (hs : List Hop) (g : Hop) → f ≡ g → Contains (f ∷ hs) g
first_hop f hs g e = subst (λ (h : Hop). Contains (f ∷ hs) h) e (in_here f hs)

abbrev fork_rest : Skeleton → Skeleton → Skeleton → Next → List Hop
fork_rest b c k n = followers b (first_of k n) ++ (followers c (first_of k n) ++ followers k n)

fork_deep : (t : Tag) (b c k : Skeleton) (n : Next) (f : Hop) → Contains (fork_rest b c k n) f → Contains (followers (fork t b c k) n) f
fork_deep t b c k n f h =
    in_later (at t, first_of b (first_of k n)) f ((at t, first_of c (first_of k n)) ∷ fork_rest b c k n) (in_later (at t, first_of c (first_of k n)) f (fork_rest b c k n) h)

abbrev round_rest : Tag → Skeleton → Skeleton → Next → List Hop
round_rest t b k n = followers b (at t, Some t) ++ followers k n

round_deep : (t : Tag) (b k : Skeleton) (n : Next) (f : Hop) → Contains (round_rest t b k n) f → Contains (followers (round t b k) n) f
round_deep t b k n f h =
    in_later (at t, first_of b (at t, Some t)) f ((at t, first_of k n) ∷ round_rest t b k n) (in_later (at t, first_of k n) f (round_rest t b k n) h)

follow_listed : (sk : Skeleton) (n : Next) (a z : Point) (m : Option Tag) → FollowsIn sk n a z m → Contains (followers sk n) (a, (z, m))
follow_listed nil n a z m h = absurd h
follow_listed (act t k) n a z m (inl (e, f)) = first_hop (at t, first_of k n) (followers k n) (a, (z, m)) (hop a t (first_of k n) z m e f)
follow_listed (act t k) n a z m (inr h) = in_later (at t, first_of k n) (a, (z, m)) (followers k n) (follow_listed k n a z m h)
follow_listed (fork t b c k) n a z m (inl (e, inl f)) =
    first_hop (at t, first_of b (first_of k n)) ((at t, first_of c (first_of k n)) ∷ fork_rest b c k n) (a, (z, m)) (hop a t (first_of b (first_of k n)) z m e f)
follow_listed (fork t b c k) n a z m (inl (e, inr f)) =
    in_later (at t, first_of b (first_of k n)) (a, (z, m)) ((at t, first_of c (first_of k n)) ∷ fork_rest b c k n)
    (first_hop (at t, first_of c (first_of k n)) (fork_rest b c k n) (a, (z, m)) (hop a t (first_of c (first_of k n)) z m e f))
follow_listed (fork t b c k) n a z m (inr (inl x)) =
    fork_deep t b c k n (a, (z, m))
    (Contains-append_left (followers b (first_of k n)) (followers c (first_of k n) ++ followers k n) (a, (z, m)) (follow_listed b (first_of k n) a z m x))
follow_listed (fork t b c k) n a z m (inr (inr (inl x))) =
    fork_deep t b c k n (a, (z, m))
    (Contains-append_right (followers b (first_of k n)) (followers c (first_of k n) ++ followers k n) (a, (z, m))
    (Contains-append_left (followers c (first_of k n)) (followers k n) (a, (z, m)) (follow_listed c (first_of k n) a z m x)))
follow_listed (fork t b c k) n a z m (inr (inr (inr x))) =
    fork_deep t b c k n (a, (z, m))
    (Contains-append_right (followers b (first_of k n)) (followers c (first_of k n) ++ followers k n) (a, (z, m))
    (Contains-append_right (followers c (first_of k n)) (followers k n) (a, (z, m)) (follow_listed k n a z m x)))
follow_listed (round t b k) n a z m (inl (e, inl f)) =
    first_hop (at t, first_of b (at t, Some t)) ((at t, first_of k n) ∷ round_rest t b k n) (a, (z, m)) (hop a t (first_of b (at t, Some t)) z m e f)
follow_listed (round t b k) n a z m (inl (e, inr f)) =
    in_later (at t, first_of b (at t, Some t)) (a, (z, m)) ((at t, first_of k n) ∷ round_rest t b k n)
    (first_hop (at t, first_of k n) (round_rest t b k n) (a, (z, m)) (hop a t (first_of k n) z m e f))
follow_listed (round t b k) n a z m (inr (inl x)) =
    round_deep t b k n (a, (z, m)) (Contains-append_left (followers b (at t, Some t)) (followers k n) (a, (z, m)) (follow_listed b (at t, Some t) a z m x))
follow_listed (round t b k) n a z m (inr (inr x)) =
    round_deep t b k n (a, (z, m)) (Contains-append_right (followers b (at t, Some t)) (followers k n) (a, (z, m)) (follow_listed k n a z m x))

listed_follow : (sk : Skeleton) (n : Next) (a z : Point) (m : Option Tag) → Contains (followers sk n) (a, (z, m)) → FollowsIn sk n a z m
listed_follow nil n a z m h = absurd (in_none (a, (z, m)) h)
listed_follow (act t k) n a z m h = elim (in_cons (at t, first_of k n) (a, (z, m)) (followers k n) h) [
  | inl e ↦ inl (hop_start a t (first_of k n) z m e, hop_end a t (first_of k n) z m e)
  | inr x ↦ inr (listed_follow k n a z m x)
]
listed_follow (fork t b c k) n a z m h =
    let mid = first_of k n in
    let rest = followers b mid ++ (followers c mid ++ followers k n) in
    elim (in_cons (at t, first_of b mid) (a, (z, m)) ((at t, first_of c mid) ∷ rest) h) [
      | inl e ↦ inl (hop_start a t (first_of b mid) z m e, inl (hop_end a t (first_of b mid) z m e))
      | inr x ↦ elim (in_cons (at t, first_of c mid) (a, (z, m)) rest x) [
        | inl e ↦ inl (hop_start a t (first_of c mid) z m e, inr (hop_end a t (first_of c mid) z m e))
        | inr y ↦ elim (Contains-append_cases (followers b mid) (followers c mid ++ followers k n) (a, (z, m)) y) [
          | inl l ↦ inr (inl (listed_follow b mid a z m l))
          | inr r ↦ elim (Contains-append_cases (followers c mid) (followers k n) (a, (z, m)) r) [
            | inl l ↦ inr (inr (inl (listed_follow c mid a z m l)))
            | inr q ↦ inr (inr (inr (listed_follow k n a z m q)))
          ]
        ]
      ]
    ]
listed_follow (round t b k) n a z m h =
    let back : Next = (at t, Some t) in
    let rest = followers b back ++ followers k n in
    elim (in_cons (at t, first_of b back) (a, (z, m)) ((at t, first_of k n) ∷ rest) h) [
      | inl e ↦ inl (hop_start a t (first_of b back) z m e, inl (hop_end a t (first_of b back) z m e))
      | inr x ↦ elim (in_cons (at t, first_of k n) (a, (z, m)) rest x) [
        | inl e ↦ inl (hop_start a t (first_of k n) z m e, inr (hop_end a t (first_of k n) z m e))
        | inr y ↦ elim (Contains-append_cases (followers b back) (followers k n) (a, (z, m)) y) [
          | inl l ↦ inr (inl (listed_follow b back a z m l))
          | inr r ↦ inr (inr (listed_follow k n a z m r))
        ]
      ]
    ]

abbrev pub pairs_of : Body → List Hop
pairs_of p = (enter, first_of (skeleton p) (exit, None)) ∷ followers (skeleton p) (exit, None)

pub pairs_exact : (p : Body) (a z : Point) (m : Option Tag) → IsPair p a z m ↔ Contains (pairs_of p) (a, (z, m))
pairs_exact p a z m = (go, back)
  where
    start : Hop
    start = (enter, first_of (skeleton p) (exit, None))

    go : IsPair p a z m → Contains (pairs_of p) (a, (z, m))
    go (inl (e, f)) = first_hop start (followers (skeleton p) (exit, None)) (a, (z, m)) (λ i. (sym e i, sym f i))
    go (inr h) = in_later start (a, (z, m)) (followers (skeleton p) (exit, None)) (follow_listed (skeleton p) (exit, None) a z m h)

    back : Contains (pairs_of p) (a, (z, m)) → IsPair p a z m
    back h = elim (in_cons start (a, (z, m)) (followers (skeleton p) (exit, None)) h) [
      | inl e ↦ inl (sym (ap (λ (f : Hop). f.0) e), sym (ap (λ (f : Hop). f.1) e))
      | inr x ↦ inr (listed_follow (skeleton p) (exit, None) a z m x)
    ]

-- the parts, listed
abbrev pub Stood : Type 0
Stood = Tag × Standing

abbrev standing : Content → List Tag → Parent → Standing
standing c nest up = record { content = c; nest = nest; parent = up }

abbrev pub standings : List Tag → Parent → Body → List Stood
standings nest up done = []
standings nest up (action t d rest) = (t, standing (content_by d) nest up) ∷ standings nest up rest
standings nest up (branch t e a b rest) =
    (t, standing (If e) nest up) ∷ (standings nest (Some (t, true)) a ++ (standings nest (Some (t, false)) b ++ standings nest up rest))
standings nest up (loop t e b rest) =
    (t, standing (While e) (nest ++ (t ∷ [])) up) ∷ (standings (nest ++ (t ∷ [])) (Some (t, true)) b ++ standings nest up rest)

stood : (t : Tag) (s : Standing) (rest : List Stood) (v : Tag) (r : Standing) → v ≡ t → r ≡ s → Contains ((t, s) ∷ rest) (v, r)
stood t s rest v r e f = subst (λ (x : Stood). Contains ((t, s) ∷ rest) x) (λ i. (sym e i, sym f i)) (in_here (t, s) rest)

pub stands_listed : (b : Body) (nest : List Tag) (up : Parent) (v : Tag) (s : Standing) → StandsAs nest up b v s → Contains (standings nest up b) (v, s)
stands_listed done nest up v s h = absurd h
stands_listed (action t d rest) nest up v s (inl (is, same)) = stood t (standing (content_by d) nest up) (standings nest up rest) v s is same
stands_listed (action t d rest) nest up v s (inr h) = in_later (t, standing (content_by d) nest up) (v, s) (standings nest up rest) (stands_listed rest nest up v s h)
stands_listed (branch t e a b rest) nest up v s (inl (is, same)) =
    stood t (standing (If e) nest up) (standings nest (Some (t, true)) a ++ (standings nest (Some (t, false)) b ++ standings nest up rest)) v s is same
stands_listed (branch t e a b rest) nest up v s (inr (inl h)) =
    in_later (t, standing (If e) nest up) (v, s) (standings nest (Some (t, true)) a ++ (standings nest (Some (t, false)) b ++ standings nest up rest))
    (Contains-append_left (standings nest (Some (t, true)) a) (standings nest (Some (t, false)) b ++ standings nest up rest) (v, s) (stands_listed a nest (Some (t, true)) v s h))
stands_listed (branch t e a b rest) nest up v s (inr (inr (inl h))) =
    in_later (t, standing (If e) nest up) (v, s) (standings nest (Some (t, true)) a ++ (standings nest (Some (t, false)) b ++ standings nest up rest))
    (Contains-append_right (standings nest (Some (t, true)) a) (standings nest (Some (t, false)) b ++ standings nest up rest) (v, s)
    (Contains-append_left (standings nest (Some (t, false)) b) (standings nest up rest) (v, s) (stands_listed b nest (Some (t, false)) v s h)))
stands_listed (branch t e a b rest) nest up v s (inr (inr (inr h))) =
    in_later (t, standing (If e) nest up) (v, s) (standings nest (Some (t, true)) a ++ (standings nest (Some (t, false)) b ++ standings nest up rest))
    (Contains-append_right (standings nest (Some (t, true)) a) (standings nest (Some (t, false)) b ++ standings nest up rest) (v, s)
    (Contains-append_right (standings nest (Some (t, false)) b) (standings nest up rest) (v, s) (stands_listed rest nest up v s h)))
stands_listed (loop t e b rest) nest up v s (inl (is, same)) =
    stood t (standing (While e) (nest ++ (t ∷ [])) up) (standings (nest ++ (t ∷ [])) (Some (t, true)) b ++ standings nest up rest) v s is same
stands_listed (loop t e b rest) nest up v s (inr (inl h)) =
    in_later (t, standing (While e) (nest ++ (t ∷ [])) up) (v, s) (standings (nest ++ (t ∷ [])) (Some (t, true)) b ++ standings nest up rest)
    (Contains-append_left (standings (nest ++ (t ∷ [])) (Some (t, true)) b) (standings nest up rest) (v, s) (stands_listed b (nest ++ (t ∷ [])) (Some (t, true)) v s h))
stands_listed (loop t e b rest) nest up v s (inr (inr h)) =
    in_later (t, standing (While e) (nest ++ (t ∷ [])) up) (v, s) (standings (nest ++ (t ∷ [])) (Some (t, true)) b ++ standings nest up rest)
    (Contains-append_right (standings (nest ++ (t ∷ [])) (Some (t, true)) b) (standings nest up rest) (v, s) (stands_listed rest nest up v s h))

abbrev stood_so : Tag → Standing → Stood
stood_so t s = (t, s)

same_stood : (t : Tag) (s : Standing) (v : Tag) (r : Standing) → stood_so t s ≡ stood_so v r → (v ≡ t) × (r ≡ s)
same_stood t s v r e = (sym (ap (λ (x : Stood). x.0) e), sym (ap (λ (x : Stood). x.1) e))

listed_stands : (b : Body) (nest : List Tag) (up : Parent) (v : Tag) (s : Standing) → Contains (standings nest up b) (v, s) → StandsAs nest up b v s
listed_stands done nest up v s h = absurd (in_none (v, s) h)
listed_stands (action t d rest) nest up v s h = elim (in_cons (t, standing (content_by d) nest up) (v, s) (standings nest up rest) h) [
  | inl same ↦ inl (same_stood t (standing (content_by d) nest up) v s same)
  | inr later ↦ inr (listed_stands rest nest up v s later)
]
listed_stands (branch t e a b rest) nest up v s h =
    elim (in_cons (t, standing (If e) nest up) (v, s) (standings nest (Some (t, true)) a ++ (standings nest (Some (t, false)) b ++ standings nest up rest)) h) [
      | inl same ↦ inl (same_stood t (standing (If e) nest up) v s same)
      | inr later ↦ elim (Contains-append_cases (standings nest (Some (t, true)) a) (standings nest (Some (t, false)) b ++ standings nest up rest) (v, s) later) [
        | inl l ↦ inr (inl (listed_stands a nest (Some (t, true)) v s l))
        | inr r ↦ elim (Contains-append_cases (standings nest (Some (t, false)) b) (standings nest up rest) (v, s) r) [
          | inl l ↦ inr (inr (inl (listed_stands b nest (Some (t, false)) v s l)))
          | inr q ↦ inr (inr (inr (listed_stands rest nest up v s q)))
        ]
      ]
    ]
listed_stands (loop t e b rest) nest up v s h =
    elim (in_cons (t, standing (While e) (nest ++ (t ∷ [])) up) (v, s) (standings (nest ++ (t ∷ [])) (Some (t, true)) b ++ standings nest up rest) h) [
      | inl same ↦ inl (same_stood t (standing (While e) (nest ++ (t ∷ [])) up) v s same)
      | inr later ↦ elim (Contains-append_cases (standings (nest ++ (t ∷ [])) (Some (t, true)) b) (standings nest up rest) (v, s) later) [
        | inl l ↦ inr (inl (listed_stands b (nest ++ (t ∷ [])) (Some (t, true)) v s l))
        | inr r ↦ inr (inr (listed_stands rest nest up v s r))
      ]
    ]

abbrev pub parts_listed : Body → List Stood
parts_listed p = standings [] None p

-- whether some part has a property
module _ (p : Body) (Q : Tag → Standing → Type 0) (q : (v : Tag) (s : Standing) → Decided (Q v s)) where
  abbrev pub SomePart : Type 0
  SomePart = (v : Tag) × (s : Standing) × StandsAsIn p v s × Q v s

  pub part_decided : Decided SomePart
  part_decided = elim (some_decided (λ (x : Stood). Q x.0 x.1) (λ x. q x.0 x.1) (standings [] None p)) [
    | inl (x, listed, holds) ↦ inl (x.0, x.1, listed_stands p [] None x.0 x.1 listed, holds)
    | inr none ↦ inr (λ (v, s, stands, holds). none (v, s) (stands_listed p [] None v s stands) holds)
  ]

module _ (t : Tree) where
  pub says_decided : (v : Tag) (c : Content) → Decided (Says t.body v c)
  says_decided v c =
      turned (SomePart t.body (λ u s. (u ≡ v) × (s.content ≡ c)) (λ u s. both (u ≡ v) (s.content ≡ c) (tag_decided u v) (content_decided s.content c))) (Says t.body v c)
      (λ (u, s, stands, (is, says)). subst (λ (w : Tag). Says t.body w c) is (subst (λ (k : Content). Says t.body u k) says (says_of_standing t.body [] None u s stands)))
      (λ says. (let (s, stands, content) = standing_of_says t.body [] None v c says in (v, s, stands, (refl, content))))
      (part_decided t.body (λ u s. (u ≡ v) × (s.content ≡ c)) (λ u s. both (u ≡ v) (s.content ≡ c) (tag_decided u v) (content_decided s.content c)))

  abbrev UsesHere : List ℕ → Tag → Tag → Standing → Type 0
  UsesHere x v u s = (u ≡ v) × UsesIn s.content x

  uses_here : (x : List ℕ) (v u : Tag) (s : Standing) → Decided (UsesHere x v u s)
  uses_here x v u s = both (u ≡ v) (UsesIn s.content x) (tag_decided u v) (uses_decided s.content x)

  pub used_decided : (x : List ℕ) (a : Point) → Decided (UsedBy t x a)
  used_decided x enter = inr (λ h. h)
  used_decided x (at v) =
      turned (SomePart t.body (UsesHere x v) (uses_here x v)) (UsedBy t x (at v))
      (λ (u, s, stands, (is, uses)). (s.content, subst (λ (w : Tag). Says t.body w s.content) is (says_of_standing t.body [] None u s stands), uses))
      (λ (c, says, uses). (let (s, stands, content) = standing_of_says t.body [] None v c says in (v, s, stands, (refl, subst (λ (k : Content). UsesIn k x) (sym content) uses))))
      (part_decided t.body (UsesHere x v) (uses_here x v))
  used_decided x exit = names_decided t.finals x

  abbrev SetsHere : List ℕ → Point → Tag → Standing → Type 0
  SetsHere x a u s = (a ≡ at u) × (assigned s.content ≡ Some x)

  sets_here : (x : List ℕ) (a : Point) (u : Tag) (s : Standing) → Decided (SetsHere x a u s)
  sets_here x a u s = both (a ≡ at u) (assigned s.content ≡ Some x) (point_decided a (at u)) (assigned_decided s.content x)

  pub defines_decided : (x : List ℕ) (a : Point) → Decided (DefinesAt t.body x a)
  defines_decided x a =
      turned (SomePart t.body (SetsHere x a) (sets_here x a)) (DefinesAt t.body x a)
      (λ (u, s, stands, (is, sets)). (u, s.content, is, says_of_standing t.body [] None u s stands, sets))
      (λ (u, c, is, says, sets). (let (s, stands, content) = standing_of_says t.body [] None u c says in (u, s, stands, (is, subst (λ (k : Content). assigned k ≡ Some x) (sym content) sets))))
      (part_decided t.body (SetsHere x a) (sets_here x a))
