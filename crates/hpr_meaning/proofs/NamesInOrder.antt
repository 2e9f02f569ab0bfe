-- The names of an expression in order, each once.
use Rattle.std.proofs.Common.{◌≡◌, ℕ, List, [], ◌∷◌, ◌⊎◌, inl, inr, ◌↔◌, Contains, refl, sym, ap, subst, ◌∙◌, if◌then◌else◌, Result, Ok, Err, IfOk}
use Rattle.std.specs.declared.cmp.Ordering.{Ordering}
use Rattle.std.specs.declared.cmp.Ordering.TheVariants.{Less, Equal, Greater}
use Rattle.std.specs.Ordering.{is_lt, is_eq}
use Rattle.std.specs.List.{AllByRecursion}
use Rattle.std.specs.List.Sorted.{IsStrictlySortedBy}
use Rattle.std.proofs.lemmas.Cmp.{nat_list_cmp_total}
use Rattle.std.proofs.lemmas.List.Elements.{All-contains, All-from_recursion}
use Rattle.std.proofs.lemmas.Map.Lookups.{exact_bytes}
use Rattle.hpr_syntax.specs.declared.rows.Content.{Content}
use Rattle.hpr_syntax.specs.Contents.{UsesIn, used_names}
use Rattle.hpr_syntax.proofs.ActByUses.{uses_in}
use Rattle.hpr_graph.specs.Order.{name_cmp}
use Rattle.hpr_graph.proofs.Lists.{in_none, in_cons, in_here, in_later}
use Rattle.hpr_graph.proofs.NameOrder.{never_both, never_less, turned}
use Rattle.hpr_meaning.specs.Instances.{put_name, put_names, names_of}

abbrev Names : Type 0
Names = List (List ℕ)

-- the name is before all of these
abbrev IsAbove : List ℕ → Names → Type 0
IsAbove x names = AllByRecursion (λ y. name_cmp x y ≡ Less) names

above_all : (x y : List ℕ) (names : Names) → name_cmp x y ≡ Less → IsAbove y names → IsAbove x names
above_all x y [] l h = tt
above_all x y (z ∷ names) l h = (nat_list_cmp_total.trans x y z l h.0, above_all x y names l h.1)

above_each : (x y : List ℕ) (names : Names) → IsAbove x names → Contains names y → name_cmp x y ≡ Less
above_each x y names h c = All-contains (λ z. name_cmp x z ≡ Less) names y (All-from_recursion (λ z. name_cmp x z ≡ Less) names h) c

-- the list that put_name makes where it meets y
abbrev met : Ordering → List ℕ → List ℕ → Names → Names
met o x y names = if is_lt o then x ∷ y ∷ names else (if is_eq o then y ∷ names else y ∷ put_name x names)

put_above : (z x : List ℕ) (names : Names) → name_cmp z x ≡ Less → IsAbove z names → IsAbove z (put_name x names)
put_above z x [] l h = (l, tt)
put_above z x (y ∷ names) l h = at (name_cmp x y) (put_above z x names l h.1)
  where
    at : (o : Ordering) → IsAbove z (put_name x names) → IsAbove z (met o x y names)
    at Less k = (l, h)
    at Equal k = h
    at Greater k = (h.0, k)

put_up : (x : List ℕ) (names : Names) → IsStrictlySortedBy name_cmp names → IsStrictlySortedBy name_cmp (put_name x names)
unfolding IsStrictlySortedBy
put_up x [] h = (tt, tt)
put_up x (y ∷ names) h = at (name_cmp x y) refl (put_up x names h.1)
  where
    at : (o : Ordering) → name_cmp x y ≡ o → IsStrictlySortedBy name_cmp (put_name x names) → IsStrictlySortedBy name_cmp (met o x y names)
    at Less e k = ((e, above_all x y names e h.0), h)
    at Equal e k = h
    at Greater e k = (put_above y x names (turned x y e) h.0, k)

put_old : (x y : List ℕ) (names : Names) → Contains names y → Contains (put_name x names) y
put_old x y [] h = absurd (in_none y h)
put_old x y (z ∷ names) h = at (name_cmp x z) (put_old x y names)
  where
    at : (o : Ordering) → (Contains names y → Contains (put_name x names) y) → Contains (met o x z names) y
    at Less k = in_later x y (z ∷ names) h
    at Equal k = h
    at Greater k = elim (in_cons z y names h) [
      | inl e ↦ subst (λ w. Contains (z ∷ put_name x names) w) e (in_here z (put_name x names))
      | inr c ↦ in_later z y (put_name x names) (k c)
    ]

put_new : (x : List ℕ) (names : Names) → Contains (put_name x names) x
put_new x [] = in_here x []
put_new x (z ∷ names) = at (name_cmp x z) refl (put_new x names)
  where
    at : (o : Ordering) → name_cmp x z ≡ o → Contains (put_name x names) x → Contains (met o x z names) x
    at Less e k = in_here x (z ∷ names)
    at Equal e k = subst (λ w. Contains (w ∷ names) x) (exact_bytes x z e) (in_here x names)
    at Greater e k = in_later z x (put_name x names) k

put_only : (x y : List ℕ) (names : Names) → Contains (put_name x names) y → (y ≡ x) ⊎ Contains names y
put_only x y [] h = elim (in_cons x y [] h) [ inl e ↦ inl (sym e) | inr c ↦ inr c ]
put_only x y (z ∷ names) h = at (name_cmp x z) h (put_only x y names)
  where
    at : (o : Ordering) → Contains (met o x z names) y → (Contains (put_name x names) y → (y ≡ x) ⊎ Contains names y) → (y ≡ x) ⊎ Contains (z ∷ names) y
    at Less c k = elim (in_cons x y (z ∷ names) c) [ inl e ↦ inl (sym e) | inr d ↦ inr d ]
    at Equal c k = inr c
    at Greater c k = elim (in_cons z y (put_name x names) c) [
      | inl e ↦ inr (subst (λ w. Contains (z ∷ names) w) e (in_here z names))
      | inr d ↦ elim (k d) [ inl e ↦ inl e | inr d ↦ inr (in_later z y names d) ]
    ]

all_up : (names : Names) → IsStrictlySortedBy name_cmp (put_names names)
unfolding IsStrictlySortedBy
all_up [] = tt
all_up (x ∷ names) = put_up x (put_names names) (all_up names)

all_old : (names : Names) (y : List ℕ) → Contains (put_names names) y → Contains names y
all_old [] y h = h
all_old (x ∷ names) y h = elim (put_only x y (put_names names) h) [
  | inl e ↦ subst (λ w. Contains (x ∷ names) w) (sym e) (in_here x names)
  | inr c ↦ in_later x y names (all_old names y c)
]

all_there : (names : Names) (y : List ℕ) → Contains names y → Contains (put_names names) y
all_there [] y h = h
all_there (x ∷ names) y h = elim (in_cons x y names h) [
  | inl e ↦ subst (λ w. Contains (put_name x (put_names names)) w) e (put_new x (put_names names))
  | inr c ↦ put_old x y (put_names names) (all_there names y c)
]

pub names_up : (c : Content) → IsStrictlySortedBy name_cmp (names_of c)
names_up c = all_up (used_names c)

-- the names of a part are those that it uses
pub names_used : (c : Content) (x : List ℕ) → Contains (names_of c) x ↔ UsesIn c x
names_used c x = (
  (λ h. (uses_in c x).0 (all_old (used_names c) x h)),
  (λ u. all_there (used_names c) x ((uses_in c x).1 u)),
)

-- lists in order with the same names are the same
same_head : (x y : List ℕ) (xs ys : Names) → IsAbove x xs → IsAbove y ys → Contains (y ∷ ys) x → Contains (x ∷ xs) y → x ≡ y
same_head x y xs ys h k c d = elim (in_cons y x ys c) [
  | inl e ↦ sym e
  | inr c' ↦ elim (in_cons x y xs d) [
    | inl e ↦ e
    | inr d' ↦ absurd (never_both x y (above_each x y xs h d') (above_each y x ys k c'))
  ]
]

-- what stands behind a head that is the same stands behind the other
behind : (x y : List ℕ) (xs ys : Names) → x ≡ y → IsAbove x xs → (z : List ℕ) → Contains xs z → Contains (y ∷ ys) z → Contains ys z
behind x y xs ys e h z c d = elim (in_cons y z ys d) [
  | inl f ↦ absurd (never_less x (subst (λ w. name_cmp x w ≡ Less) (sym f ∙ sym e) (above_each x z xs h c)))
  | inr d' ↦ d'
]

pub one_order : (xs ys : Names) → IsStrictlySortedBy name_cmp xs → IsStrictlySortedBy name_cmp ys
    → ((x : List ℕ) → Contains xs x → Contains ys x) → ((x : List ℕ) → Contains ys x → Contains xs x) → xs ≡ ys
unfolding IsStrictlySortedBy
one_order [] [] h k f g = refl
one_order [] (y ∷ ys) h k f g = absurd (in_none y (g y (in_here y ys)))
one_order (x ∷ xs) [] h k f g = absurd (in_none x (f x (in_here x xs)))
one_order (x ∷ xs) (y ∷ ys) h k f g =
    let e : x ≡ y = same_head x y xs ys h.0 k.0 (f x (in_here x xs)) (g y (in_here y ys)) in
    let rest : xs ≡ ys = one_order xs ys h.1 k.1
    (λ z c. behind x y xs ys e h.0 z c (f z (in_later x z xs c)))
    (λ z c. behind y x ys xs (sym e) k.0 z c (g z (in_later y z ys c))) in
    ap (λ w. w ∷ xs) e ∙ ap (λ l. y ∷ l) rest

-- a list of the names from left to right, put in order
one_list : (c : Content) (names : Names) → IsStrictlySortedBy name_cmp names
    → ((x : List ℕ) → Contains names x ↔ Contains (used_names c) x) → names ≡ names_of c
one_list c names up same =
    one_order names (names_of c) up (names_up c)
    (λ x h. all_there (used_names c) x ((same x).0 h))
    (λ x h. (same x).1 (all_old (used_names c) x h))

-- what the code answers
pub in_order_of : {V E : Type 0} (items : V → Names) (c : Content) (from : Names) (r : Result V E) → from ≡ used_names c
    → IfOk r (λ v. IsStrictlySortedBy name_cmp (items v)) → IfOk r (λ v. (x : List ℕ) → Contains (items v) x ↔ Contains from x)
    → IfOk r (λ v. items v ≡ names_of c)
in_order_of items c from (Ok v) is up same = one_list c (items v) up (subst (λ l. (x : List ℕ) → Contains (items v) x ↔ Contains l x) is same)
in_order_of items c from (Err f) is up same = tt
