-- Rows of the vertices into which control edges go, an edge more at a time.
use Rattle.std.proofs.Common.{◌≡◌, ℕ, zero, suc, ◌+◌, ◌<◌, ◌≤◌, ◌↔◌, ◌⊎◌, inl, inr, Bool, Option, Some, List, [], ◌∷◌, length, take, get_or, Contains, refl, sym, ap, ◌∙◌, subst, arith}
use Rattle.std.proofs.lemmas.Bool.{cases_eq, cases_lt}
use Rattle.std.proofs.lemmas.Option.{slice_get_within, slice_get_past}
use Rattle.std.proofs.lemmas.List.{take_all}
use Rattle.hpr_terms.proofs.Facts.{taken_item}
use Rattle.hpr_search.specs.Rows.{numbers_at, IsPushed}
use Rattle.hpr_graph.specs.declared.link.LinkKind.{LinkKind}
use Rattle.hpr_graph.specs.declared.link.LinkKind.TheVariants.{Control, Independent, Carried, Order}
use Rattle.hpr_graph.specs.declared.link.Link.{Link}
use Rattle.hpr_graph.specs.Numbered.{Numbered, HasLink, IsLink, IsNumbered, row_of, row_items}
use Rattle.hpr_order.specs.Regions.{control_link}
use Rattle.hpr_order.specs.Controls.{label_of, HasControl, AreControlled, IsPushedBy}
use Rattle.hpr_graph.proofs.Lists.{some_inj, in_none, in_cons, in_here}

-- the control edge of a link
pub control_of : (l : Link) (from : ℕ) (label : Bool) → l.kind ≡ Control label → l.from ≡ from → l ≡ control_link from label
control_of l from label kind is = λ i. record { from = is i; kind = kind i }

pub label_is : (k : LinkKind) (label : Bool) → label_of k ≡ Some label → k ≡ Control label
label_is (Control mark) label h = ap Control (some_inj mark label h)
label_is Independent label h = absurd cc
label_is (Carried w) label h = absurd cc
label_is (Order u) label h = absurd cc

-- one link
one_control : (l : Link) (from : ℕ) → HasControl (l ∷ []) from ↔ ((label : Bool) × (l ≡ control_link from label))
one_control l from = (
  λ (label, there). elim (in_cons l (control_link from label) [] there) [ inl e ↦ (label, e) | inr none ↦ absurd (in_none (control_link from label) none) ],
  λ (label, e). (label, subst (λ (x : Link). Contains (l ∷ []) x) e (in_here l [])),
)

pub pushed_one : (old new : List (List ℕ)) (l : Link) (n : ℕ) (label : Bool) → label_of l.kind ≡ Some label → IsPushed old l.from n new → IsPushedBy old (l ∷ []) n new
pushed_one old new l n label kind more from to = (
  λ h. elim ((more from to).0 h) [ inl o ↦ inl o | inr (same, e) ↦ inr ((one_control l from).1 (label, control_of l from label (label_is l.kind label kind) (sym same)), e) ],
  λ h. elim h [
    | inl o ↦ (more from to).1 (inl o)
    | inr (has, e) ↦ (let (mark, same) = (one_control l from).0 has in (more from to).1 (inr (sym (ap (λ (x : Link). x.from) same), e)))
  ],
)

more_control : (links : List Link) (i from : ℕ) (l : Link) → i < length links → l ≡ get_or links i l → HasControl (take (i + 1) links) from ↔ (HasControl (take i links) from ⊎ HasControl (l ∷ []) from)
more_control links i from l k is = (
  λ (label, there). elim ((taken_item links i l (control_link from label) k is).0 there) [ inl was ↦ inl (label, was) | inr e ↦ inr ((one_control l from).1 (label, e)) ],
  λ h. elim h [
    | inl (label, was) ↦ (label, (taken_item links i l (control_link from label) k is).1 (inl was))
    | inr one ↦ (let (label, e) = (one_control l from).0 one in (label, (taken_item links i l (control_link from label) k is).1 (inr e)))
  ],
)

pushed_more : (old now new : List (List ℕ)) (links : List Link) (i n : ℕ) (l : Link) → i < length links → l ≡ get_or links i l
    → IsPushedBy old (take i links) n now → IsPushedBy now (l ∷ []) n new → IsPushedBy old (take (i + 1) links) n new
pushed_more old now new links i n l k is before more from to = (
  λ h. elim ((more from to).0 h) [
    | inl was ↦ elim ((before from to).0 was) [ inl o ↦ inl o | inr (has, e) ↦ inr ((more_control links i from l k is).1 (inl has), e) ]
    | inr (one, e) ↦ inr ((more_control links i from l k is).1 (inr one), e)
  ],
  λ h. elim h [
    | inl o ↦ (more from to).1 (inl ((before from to).1 (inl o)))
    | inr (has, e) ↦ elim ((more_control links i from l k is).0 has) [
      | inl was ↦ (more from to).1 (inl ((before from to).1 (inr (was, e))))
      | inr one ↦ (more from to).1 (inr (one, e))
    ]
  ],
)

pub get_or_same : (xs : List Link) (i : ℕ) (d : Link) → i < length xs → get_or xs i d ≡ get_or xs i (get_or xs i d)
get_or_same [] i d l = absurd (omega (arith, l))
get_or_same (x ∷ xs) zero d l = refl
get_or_same (x ∷ xs) (suc i) d l = get_or_same xs i d (omega (arith, l))

pub pushed_next : (d : Link) (old now new : List (List ℕ)) (links : List Link) (i n : ℕ) → i < length links
    → IsPushedBy old (take i links) n now → IsPushedBy now (get_or links i d ∷ []) n new → IsPushedBy old (take (i + 1) links) n new
pushed_next d old now new links i n k before more = pushed_more old now new links i n (get_or links i d) k (get_or_same links i d k) before more

pub pushed_whole : (old new : List (List ℕ)) (links : List Link) (i n : ℕ) → length links ≤ i → IsPushedBy old (take i links) n new → IsPushedBy old links n new
pushed_whole old new links i n l all = subst (λ (xs : List Link). IsPushedBy old xs n new) (take_all i links l) all

-- the rows of the vertices up to one
pub record AreControlledTo (g : Numbered) (rows : List (List ℕ)) (at : ℕ) : Type 0 where
  pub count : length rows ≡ length g.vertices
  pub exact : (from to : ℕ) → Contains (numbers_at rows from) to ↔ ((to < at) × HasControl (row_of g to) from)

pub controlled_none : (g : Numbered) (rows : List (List ℕ)) → length rows ≡ length g.vertices → ((at n : ℕ) → ¬ Contains (numbers_at rows at) n) → AreControlledTo g rows 0
controlled_none g rows count none = record { count = count; exact = λ from to. (λ h. absurd (none from to h), λ h. absurd (omega (arith, h.0))) }

pub controlled_more : (g : Numbered) (rows rows' : List (List ℕ)) (at : ℕ) (links : List Link) → links ≡ row_of g at → AreControlledTo g rows at → length rows' ≡ length rows → IsPushedBy rows links at rows' → AreControlledTo g rows' (at + 1)
controlled_more g rows rows' at links is t count pushed = record {
  count = count ∙ t.count;
  exact = λ from to. (
    λ h. elim ((pushed from to).0 h) [
      | inl was ↦ (let (l, there) = (t.exact from to).0 was in (omega (arith, l), there))
      | inr (has, e) ↦ (omega (arith, e), subst (λ (row : List Link). HasControl row from) (is ∙ ap (row_of g) (sym e)) has)
    ],
    λ (l, there). elim (cases_eq to at) [
      | inl e ↦ (pushed from to).1 (inr (subst (λ (row : List Link). HasControl row from) (ap (row_of g) e ∙ sym is) there, e))
      | inr ne ↦ (pushed from to).1 (inl ((t.exact from to).1 (omega (arith, l, ne), there)))
    ],
  );
}

-- the number of a row that has a link
pub row_within : (g : Numbered) → IsNumbered g → (to : ℕ) (l : Link) → HasLink g to l → to < length g.vertices
row_within g k to l has = elim (cases_lt to (length g.links)) [
  | inl lt ↦ omega (arith, lt, k.rows)
  | inr le ↦ absurd (in_none l (subst (λ (o : Option (List Link)). Contains (row_items o) l) (slice_get_past g.links to le) has))
]

pub controlled_whole : (g : Numbered) → IsNumbered g → (rows : List (List ℕ)) (at : ℕ) → length g.vertices ≤ at → AreControlledTo g rows at → AreControlled g rows
controlled_whole g k rows at l t = record {
  count = t.count;
  exact = λ from to. (
    λ h. ((t.exact from to).0 h).1,
    λ (label, has). (let w = row_within g k to (control_link from label) has in (t.exact from to).1 (omega (arith, w, l), (label, has))),
  );
}

-- the source of a link is a vertex
pub from_within : (g : Numbered) (to : ℕ) (l : Link) → IsLink g to l → l.from < length g.vertices
from_within g to l (e, is) = slice_get_within g.vertices l.from e.from is.1
