-- Links that may be new, one link and one vertex after another.
use Rattle.std.proofs.Common.{◌≡◌, ℕ, ◌+◌, ◌<◌, ◌≤◌, ◌⊎◌, inl, inr, Bool, false, Option, Some, None, List, []}
use Rattle.std.proofs.Common.{◌∷◌, ◌++◌, length, get_or, take, All, Contains, slice_get, refl, sym, ap, ◌∙◌, subst, arith}
use Rattle.std.proofs.lemmas.Bool.{cases_eq}
use Rattle.std.proofs.lemmas.List.{take_all}
use Rattle.std.proofs.lemmas.List.Elements.{Contains-get_or, Contains-push, Contains-push_cases, Contains-append_left}
use Rattle.std.proofs.lemmas.Option.{slice_get_within}
use Rattle.hpr_search.specs.Marks.{IsMarked}
use Rattle.hpr_graph.specs.declared.link.LinkKind.TheVariants.{Control}
use Rattle.hpr_graph.specs.declared.link.Link.{Link}
use Rattle.hpr_graph.specs.Numbered.{Numbered, HasLink, IsNumbered, row_of}
use Rattle.hpr_graph.proofs.Lists.{in_none, in_taken, contains_at, at_push}
use Rattle.hpr_slice.specs.Neighbours.{Follows}
use Rattle.hpr_merge.specs.Added.{IsFirst}
use Rattle.hpr_merge.specs.Candidates.{AreCandidates, AreNewSources, HasFollowed, IsNewFrom, IsNewSource, MayBeNew, with_first}

-- what a row is read with past its end
abbrev pub no_link : Link
no_link = record { from = 0; kind = Control false }

-- links that are followed and known
pub followed_next : (ls known : List Link) (i : ℕ) (d : Link) → i < length ls → HasFollowed (take i ls) known
    → (Follows (get_or ls i d).kind → Contains known (get_or ls i d)) → HasFollowed (take (i + 1) ls) known
followed_next ls known i d l before one x has follows = elim ((in_taken ls i d x l).0 has) [
  | inl was ↦ before x was follows
  | inr same ↦ subst (Contains known) same (one (subst (λ (y : Link). Follows y.kind) (sym same) follows))
]

pub followed_whole : (ls known : List Link) (i : ℕ) → length ls ≤ i → HasFollowed (take i ls) known → HasFollowed ls known
followed_whole ls known i all h = subst (λ (xs : List Link). HasFollowed xs known) (take_all i ls all) h

pub followed_rows : (k m : Numbered) (n t : ℕ) (ls known : List Link) → ls ≡ row_of k n → known ≡ row_of m n → t ≡ n → HasFollowed ls known
    → HasFollowed (row_of k t) (row_of m t)
followed_rows k m n t ls known ls_are known_are same h x has follows =
    subst (λ (xs : List Link). Contains xs x) (known_are ∙ ap (row_of m) (sym same))
    (h x (subst (λ (xs : List Link). Contains xs x) (ap (row_of k) same ∙ sym ls_are) has) follows)

-- the sources of those that are followed and not known
pub record ArePushed (ls known : List Link) (old new : List ℕ) : Type 0 where
  pub kept : (s : ℕ) → Contains old s → Contains new s
  pub only : (s : ℕ) → Contains new s → Contains old s ⊎ IsNewFrom ls known s
  pub all : (l : Link) → Contains ls l → Follows l.kind → Contains known l ⊎ Contains new l.from

module _ (ls known : List Link) (i : ℕ) (d : Link) (l : i < length ls) (old now : List ℕ) (a : ArePushed (take i ls) known old now) where
  more_new : (s : ℕ) → IsNewFrom (take i ls) known s → IsNewFrom (take (i + 1) ls) known s
  more_new s (x, has, follows, new, from) = (x, (in_taken ls i d x l).1 (inl has), follows, new, from)

  pub pushed_skip : (Follows (get_or ls i d).kind → Contains known (get_or ls i d)) → ArePushed (take (i + 1) ls) known old now
  pushed_skip one = record {
    kept = a.kept;
    only = λ s h. elim (a.only s h) [ inl was ↦ inl was | inr new ↦ inr (more_new s new) ];
    all = λ x has follows. elim ((in_taken ls i d x l).0 has) [
      | inl was ↦ a.all x was follows
      | inr same ↦ inl (subst (Contains known) same (one (subst (λ (y : Link). Follows y.kind) (sym same) follows)))
    ];
  }

  pub pushed_put : Follows (get_or ls i d).kind → ¬ Contains known (get_or ls i d) → ArePushed (take (i + 1) ls) known old (now ++ (get_or ls i d).from ∷ [])
  pushed_put follows unknown = record {
    kept = λ s h. Contains-append_left now ((get_or ls i d).from ∷ []) s (a.kept s h);
    only = λ s h. elim (Contains-push_cases now (get_or ls i d).from s h) [
      | inl was ↦ elim (a.only s was) [ inl older ↦ inl older | inr new ↦ inr (more_new s new) ]
      | inr from ↦ inr (get_or ls i d, (in_taken ls i d (get_or ls i d) l).1 (inr refl), follows, unknown, from)
    ];
    all = λ x has follows'. elim ((in_taken ls i d x l).0 has) [
      | inl was ↦ elim (a.all x was follows') [ inl k ↦ inl k | inr listed ↦ inr (Contains-append_left now ((get_or ls i d).from ∷ []) x.from listed) ]
      | inr same ↦ inr (subst (λ (y : Link). Contains (now ++ (get_or ls i d).from ∷ []) y.from) same (Contains-push now (get_or ls i d).from))
    ];
  }

pub pushed_whole : (ls known : List Link) (i : ℕ) (old new : List ℕ) → length ls ≤ i → ArePushed (take i ls) known old new → ArePushed ls known old new
pushed_whole ls known i old new all a = subst (λ (xs : List Link). ArePushed xs known old new) (take_all i ls all) a

-- a vertex with a link is one of the graph
pub within_row : (m : Numbered) → IsNumbered m → (to : ℕ) (l : Link) → HasLink m to l → to < length m.vertices
within_row m km to l has = let (e, is) = km.links to l has in slice_get_within m.vertices to e.to is.0

-- the sources into the vertices below one
pub record AreNewTo (m k : Numbered) (near : List Bool) (n : ℕ) (ss : List ℕ) : Type 0 where
  pub only : (s : ℕ) → Contains ss s → IsNewSource m k near s
  pub all : (to : ℕ) (l : Link) → to < n → IsMarked near to → HasLink m to l → Follows l.kind → HasLink k to l ⊎ Contains ss l.from

module _ (m k : Numbered) (near : List Bool) where
  pub new_skip : (n : ℕ) (ss : List ℕ) → (¬ IsMarked near n) → AreNewTo m k near n ss → AreNewTo m k near (n + 1) ss
  new_skip n ss unmarked a = record {
    only = a.only;
    all = λ to l less marked has follows. elim (cases_eq to n) [
      | inl e ↦ absurd (unmarked (subst (IsMarked near) e marked))
      | inr ne ↦ a.all to l (omega (arith, less, ne)) marked has follows
    ];
  }

  pub new_more : (n : ℕ) (ls known : List Link) (ss ts : List ℕ) → ls ≡ row_of m n → known ≡ row_of k n → IsMarked near n → ArePushed ls known ss ts
      → AreNewTo m k near n ss → AreNewTo m k near (n + 1) ts
  new_more n ls known ss ts ls_are known_are marked p a = record {
    only = λ s h. elim (p.only s h) [
      | inl was ↦ a.only s was
      | inr (l, has, follows, new, from) ↦ (
        n,
        marked,
        (l, subst (λ (xs : List Link). Contains xs l) ls_are has, follows, λ x. new (subst (λ (xs : List Link). Contains xs l) (sym known_are) x), from),
      )
    ];
    all = λ to l less there has follows. elim (cases_eq to n) [
      | inl e ↦ elim (p.all l (subst (λ (xs : List Link). Contains xs l) (ap (row_of m) e ∙ sym ls_are) has) follows) [
        | inl kept ↦ inl (subst (λ (xs : List Link). Contains xs l) (known_are ∙ ap (row_of k) (sym e)) kept)
        | inr listed ↦ inr listed
      ]
      | inr ne ↦ elim (a.all to l (omega (arith, less, ne)) there has follows) [ inl kept ↦ inl kept | inr listed ↦ inr (p.kept l.from listed) ]
    ];
  }

  pub new_whole : (n : ℕ) (ss : List ℕ) → IsNumbered m → length m.vertices ≤ n → AreNewTo m k near n ss → AreNewSources m k near ss
  new_whole n ss km all a = record {
    only = a.only;
    all = λ to l marked has follows. a.all to l
        (let w = within_row m km to l has in omega (arith, w, all)) marked has follows;
  }

  -- the source of a new link is a vertex
  sources_within : (ss : List ℕ) → IsNumbered m → AreNewSources m k near ss → (s : ℕ) → Contains ss s → s < length m.vertices
  sources_within ss km a s h =
      let (to, marked, (l, has, follows, new, from)) = a.only s h in
      let (e, is) = km.links to l has in
      subst (λ (x : ℕ). x < length m.vertices) from (slice_get_within m.vertices l.from e.from is.1)

  pub all_sources : (ss : List ℕ) → IsNumbered m → AreNewSources m k near ss → All (λ s. s < length m.vertices) ss
  all_sources ss km a i d l = sources_within ss km a (get_or ss i d) (Contains-get_or ss i d l)

-- the candidates into the vertices below one
pub record AreCandidatesTo (m k : Numbered) (near far : List Bool) (n : ℕ) (cs : List (ℕ × Link)) : Type 0 where
  pub only : (c : ℕ × Link) → Contains cs c → IsMarked near c.0 × IsFirst (MayBeNew (row_of k c.0) far) (row_of m c.0) (Some c.1)
  pub all : (to : ℕ) (l : Link) → to < n → IsMarked near to → HasLink m to l → MayBeNew (row_of k to) far l → (f : Link) × Contains cs (to, f)
  pub below : (c : ℕ × Link) → Contains cs c → c.0 < n
  pub ascend : (i j : ℕ) (c d : ℕ × Link) → i < j → slice_get cs i ≡ Some c → slice_get cs j ≡ Some d → c.0 < d.0

module _ (m k : Numbered) (near far : List Bool) where
  module _ (n : ℕ) (cs : List (ℕ × Link)) (a : AreCandidatesTo m k near far n cs) where
    pub candidates_skip : ((l : Link) → IsMarked near n → HasLink m n l → ¬ MayBeNew (row_of k n) far l) → AreCandidatesTo m k near far (n + 1) cs
    candidates_skip none = record {
      only = a.only;
      all = λ to l less marked has may. elim (cases_eq to n) [
        | inl e ↦ absurd (none l (subst (IsMarked near) e marked) (subst (λ (x : ℕ). HasLink m x l) e has)
            (subst (λ (x : ℕ). MayBeNew (row_of k x) far l) e may))
        | inr ne ↦ a.all to l (omega (arith, less, ne)) marked has may
      ];
      below = λ c h. (let l = a.below c h in omega (arith, l));
      ascend = a.ascend;
    }

    candidates_put : (f : Link) → IsMarked near n → IsFirst (MayBeNew (row_of k n) far) (row_of m n) (Some f)
        → AreCandidatesTo m k near far (n + 1) (cs ++ (n, f) ∷ [])
    candidates_put f marked first = record {
      only = λ c h. elim (Contains-push_cases cs (n, f) c h) [
        | inl was ↦ a.only c was
        | inr same ↦ subst (λ (d : ℕ × Link). IsMarked near d.0 × IsFirst (MayBeNew (row_of k d.0) far) (row_of m d.0) (Some d.1)) same (marked, first)
      ];
      all = λ to l less there has may. elim (cases_eq to n) [
        | inl e ↦ (f, subst (λ (x : ℕ). Contains {X = ℕ × Link} (cs ++ (n, f) ∷ []) (x, f)) (sym e) (Contains-push {X = ℕ × Link} cs (n, f)))
        | inr ne ↦ (let (g, stands) = a.all to l (omega (arith, less, ne)) there has may in (g, Contains-append_left cs ((n, f) ∷ []) (to, g) stands))
      ];
      below = λ c h. elim (Contains-push_cases cs (n, f) c h) [
        | inl was ↦ (let l = a.below c was in omega (arith, l))
        | inr same ↦ (let e : n ≡ c.0 = ap (λ (d : ℕ × Link). d.0) same in omega (arith, e))
      ];
      ascend = λ i j c d l at_i at_j. elim (at_push cs (n, f) j d at_j) [
        | inl d_was ↦ elim (at_push cs (n, f) i c at_i) [
          | inl c_was ↦ a.ascend i j c d l c_was d_was
          | inr (place, same) ↦ absurd (let w = slice_get_within cs j d d_was in omega (arith, w, place, l))
        ]
        | inr (place, same) ↦ elim (at_push cs (n, f) i c at_i) [
          | inl c_was ↦ (let below = a.below c (contains_at cs i c c_was) in let e : n ≡ d.0 = ap (λ (z : ℕ × Link). z.0) same in omega (arith, below, e))
          | inr (place', same') ↦ absurd (omega (arith, place, place', l))
        ]
      ];
    }

    pub candidates_more : (ls known : List Link) (o : Option Link) → ls ≡ row_of m n → known ≡ row_of k n → IsMarked near n
        → IsFirst (MayBeNew known far) ls o → AreCandidatesTo m k near far (n + 1) (with_first n o cs)
    candidates_more ls known None ls_are known_are marked first =
        candidates_skip (λ l there has may. first l (subst (λ (xs : List Link). Contains xs l) (sym ls_are) has)
        (λ (k', settled). may (subst (λ (xs : List Link). Contains xs l) known_are k', settled)))
    candidates_more ls known (Some f) ls_are known_are marked first =
        candidates_put f marked (subst (λ (xs : List Link). IsFirst (MayBeNew xs far) (row_of m n) (Some f)) known_are
        (subst (λ (xs : List Link). IsFirst (MayBeNew known far) xs (Some f)) ls_are first))

  pub candidates_whole : (n : ℕ) (cs : List (ℕ × Link)) → IsNumbered m → length m.vertices ≤ n → AreCandidatesTo m k near far n cs
      → AreCandidates m k near far cs
  candidates_whole n cs km all a = record {
    only = a.only;
    all = λ to l marked has may. a.all to l (let w = within_row m km to l has in omega (arith, w, all)) marked has may;
    ascend = a.ascend;
  }

  -- the target of a candidate is a vertex
  pub targets_within : (cs : List (ℕ × Link)) → IsNumbered m → AreCandidates m k near far cs → (c : ℕ × Link) → Contains cs c → c.0 < length m.vertices
  targets_within cs km a c h = let (marked, (may, (i, at, first))) = a.only c h in within_row m km c.0 c.1 (contains_at (row_of m c.0) i c.1 at)
