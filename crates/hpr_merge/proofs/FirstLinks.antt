-- The first link with a property, one link after another.
use Rattle.std.proofs.Common.{◌≡◌, ℕ, ◌+◌, ◌<◌, ◌≤◌, ◌↔◌, inl, inr, Bool, Option, Some, None, List, length, get_or, Contains, slice_get, sym, ap, ◌∙◌, subst, arith}
use Rattle.std.proofs.lemmas.Bool.{cases_eq}
use Rattle.std.proofs.lemmas.Option.{slice_get-get_or, slice_get_within}
use Rattle.hpr_graph.specs.declared.link.Link.{Link}
use Rattle.hpr_graph.specs.Numbered.{Numbered, HasLink, IsNumbered, row_of}
use Rattle.hpr_graph.proofs.Lists.{some_inj, place_of}
use Rattle.hpr_search.specs.Marks.{IsMarked}
use Rattle.hpr_merge.specs.Added.{IsAddedLink, IsFirst, IsFirstAdded, IsMore}

module _ (P : Link → Type 0) (ls : List Link) where
  abbrev pub NoneBefore : ℕ → Type 0
  NoneBefore n = (j : ℕ) (m : Link) → j < n → slice_get ls j ≡ Some m → ¬ P m

  pub none_next : (n : ℕ) (d : Link) → n < length ls → ¬ P (get_or ls n d) → NoneBefore n → NoneBefore (n + 1)
  none_next n d l fails before j m less at p = elim (cases_eq j n) [
    | inl same ↦ fails (subst P (some_inj m (get_or ls n d) (sym at ∙ ap (slice_get ls) same ∙ slice_get-get_or ls n d l)) p)
    | inr other ↦ before j m (omega (arith, less, other)) at p
  ]

  pub first_here : (n : ℕ) (d : Link) → n < length ls → P (get_or ls n d) → NoneBefore n → IsFirst P ls (Some (get_or ls n d))
  first_here n d l here before = (here, (n, slice_get-get_or ls n d l, before))

  pub none_whole : (n : ℕ) → length ls ≤ n → NoneBefore n → IsFirst P ls None
  none_whole n all before l has p = let (j, at) = place_of ls l has in before j l (let w = slice_get_within ls j l at in omega (arith, w, all)) at p

-- the first link of a row with more
pub first_of : (P Q : Link → Type 0) (ls ls' : List Link) (o : Option Link) → ls ≡ ls' → ((l : Link) → P l ↔ Q l) → IsFirst P ls o → IsFirst Q ls' o
first_of P Q ls ls' None same f none = λ l has q. none l (subst (λ (xs : List Link). Contains xs l) (sym same) has) ((f l).1 q)
first_of P Q ls ls' (Some l) same f (p, (i, at, first)) =
    ((f l).0 p, (i, subst (λ (xs : List Link). slice_get xs i ≡ Some l) same at, λ j m less at' q. first j m less (subst (λ (xs : List Link). slice_get xs j ≡ Some m) (sym same) at') ((f m).1 q)))

-- the first link into a vertex that both slices mark
pub first_into : (k : Numbered) (grown own : List Bool) (to : ℕ) (ls row own_row : List Link) (o : Option Link) → IsMarked grown to → IsMarked own to → ls ≡ row → own_row ≡ row_of k to → IsFirst (IsMore grown own own_row) ls o → IsFirst (IsAddedLink k grown own to) row o
first_into k grown own to ls row own_row o g w same own_same first =
    first_of (IsMore grown own own_row) (IsAddedLink k grown own to) ls row o same
    (λ l. (λ (inside, new). (g, w, (inside, λ (has, r). new (subst (λ (xs : List Link). Contains xs l) (sym own_same) has, r))), λ (a, b, (inside, new)). (inside, λ (has, r). new (subst (λ (xs : List Link). Contains xs l) own_same has, r)))) first

-- no link is added at all
pub none_added_whole : (m k : Numbered) (grown own : List Bool) (n : ℕ) → IsNumbered m → length m.vertices ≤ n → ((t : ℕ) (l : Link) → t < n → HasLink m t l → ¬ IsAddedLink k grown own t l) → IsFirstAdded m k grown own None
none_added_whole m k grown own n km all before to l has = before to l (let (e, is) = km.links to l has in let w = slice_get_within m.vertices to e.to is.0 in omega (arith, w, all)) has
