-- The places of the parts of a block, a statement after another.
use Rattle.std.proofs.Common.{◌≡◌, ℕ, ◌+◌, true, false, Option, Some, List, [], ◌∷◌, ◌++◌, refl, sym, ap, ◌∙◌, append_assoc, append-nil, arith}
use Rattle.hpr_terms.specs.declared.tag.Tag.{Tag}
use Rattle.hpr_terms.specs.declared.expr.Expr.{Expr}
use Rattle.hpr_syntax.specs.Parts.{tag_of}
use Rattle.hpr_syntax.specs.Rows.{content_of}
use Rattle.hpr_syntax.specs.declared.tree.Stmt.{Stmt}
use Rattle.hpr_syntax.specs.declared.tree.Stmt.TheVariants.{If, While}
use Rattle.hpr_syntax.specs.declared.rows.Content.TheVariants as content
use Rattle.hpr_syntax.specs.Body.{Body, done, part_count}
use Rattle.hpr_syntax.specs.BodyOf.{before}
use Rattle.hpr_paths.proofs.Blocks.{IsOther, count_cons}
use Rattle.hpr_build.specs.declared.places.Parent.{Parent}
use Rattle.hpr_build.specs.declared.places.Span.{Span}
use Rattle.hpr_build.specs.Places.{Place, place_of, places_of}

pub turn_parts : (here rest : Body) (s : Stmt) → here ≡ before s rest → part_count here ≡ part_count (before s done) + part_count rest
turn_parts here rest s is = ap part_count is ∙ count_cons s rest

module _ (up : Option Parent) (others : List Span) where
  after_one : (xs zs : List Place) → xs ++ zs ≡ (xs ++ []) ++ zs
  after_one xs zs = sym (append_assoc xs [] zs)

  after_two : (xs ys zs : List Place) → xs ++ (ys ++ zs) ≡ (xs ++ (ys ++ [])) ++ zs
  after_two xs ys zs = sym (append_assoc xs (ys ++ []) zs ∙ ap (λ (ws : List Place). xs ++ ws) (append_assoc ys [] zs))

  places_before : (s : Stmt) (rest : Body) (n : ℕ) → places_of (before s rest) n up others ≡ places_of (before s done) n up others ++ places_of rest (n + part_count (before s done)) up others
  places_before (If t e a b) rest n =
      let no = n + 1 + part_count a in
      let next = no + part_count b in
      let yes = places_of a (n + 1) (Some (record { point = n; label = true })) (others ++ record { from = no; to = next } ∷ []) in
      let other = places_of b no (Some (record { point = n; label = false })) others in
      let same : next ≡ n + part_count (before (If t e a b) done) = omega arith in
      ap (λ (ps : List Place). place_of t (content.If e) up others ∷ ps) (after_two yes other (places_of rest next up others) ∙ ap (λ (k : ℕ). (yes ++ (other ++ [])) ++ places_of rest k up others) same)
  places_before (While t e b) rest n =
      let next = n + 1 + part_count b in
      let body = places_of b (n + 1) (Some (record { point = n; label = true })) others in
      let same : next ≡ n + part_count (before (While t e b) done) = omega arith in
      ap (λ (ps : List Place). place_of t (content.While e) up others ∷ ps) (after_one body (places_of rest next up others) ∙ ap (λ (k : ℕ). (body ++ []) ++ places_of rest k up others) same)
  places_before s rest n = refl

  -- one statement more
  pub turn_places : (old new target : List Place) (here rest : Body) (s : Stmt) (n m : ℕ) → here ≡ before s rest → new ≡ old ++ places_of (before s done) n up others → m ≡ n + part_count (before s done)
      → old ++ places_of here n up others ≡ target → new ++ places_of rest m up others ≡ target
  turn_places old new target here rest s n m is more next before' =
      ap (λ (ps : List Place). ps ++ places_of rest m up others) more
      ∙ append_assoc old (places_of (before s done) n up others) (places_of rest m up others)
      ∙ ap (λ (k : ℕ). old ++ (places_of (before s done) n up others ++ places_of rest k up others)) next
      ∙ sym (ap (λ (ps : List Place). old ++ ps) (ap (λ (b : Body). places_of b n up others) is ∙ places_before s rest n))
      ∙ before'

  abbrev Head : Stmt → Place
  Head s = place_of (tag_of s) (content_of s) up others

  -- one statement with the parts in it: one without blocks, a loop, a conditional
  pub stmt_simple : (s : Stmt) → IsOther s → (old one : List Place) (n : ℕ) → one ≡ old ++ Head s ∷ [] → one ≡ old ++ places_of (before s done) n up others
  stmt_simple (If t e a b) other old one n first = absurd (other.0 t e a b refl)
  stmt_simple (While t e b) other old one n first = absurd (other.1 t e b refl)
  stmt_simple s other old one n first = first

  pub stmt_while : (s : Stmt) (t : Tag) (e : Expr) (b : Body) → s ≡ While t e b → (old one new : List Place) (n m p : ℕ) (inside : Option Parent)
      → one ≡ old ++ Head s ∷ [] → new ≡ one ++ places_of b m inside others → inside ≡ Some (record { point = p; label = true }) → p ≡ n → m ≡ n + 1 → new ≡ old ++ places_of (before s done) n up others
  stmt_while s t e b is old one new n m p inside first more under same next =
      let body : List Place = places_of b (n + 1) (Some (record { point = n; label = true })) others in
      let parent : inside ≡ Some (record { point = n; label = true }) = under ∙ ap (λ (k : ℕ). Some (record { point = k; label = true })) same in
      more
      ∙ ap (λ (ps : List Place). ps ++ places_of b m inside others) first
      ∙ append_assoc old (Head s ∷ []) (places_of b m inside others)
      ∙ ap (λ (k : ℕ). old ++ Head s ∷ places_of b k inside others) next
      ∙ ap (λ (q : Option Parent). old ++ Head s ∷ places_of b (n + 1) q others) parent
      ∙ ap (λ (r : Stmt). old ++ Head r ∷ body) is
      ∙ ap (λ (ps : List Place). old ++ Head (While t e b) ∷ ps) (sym (append-nil body))
      ∙ sym (ap (λ (r : Stmt). old ++ places_of (before r done) n up others) is)

  pub stmt_if : (s : Stmt) (t : Tag) (e : Expr) (a b : Body) → s ≡ If t e a b → (old one two new : List Place) (n m k p from to : ℕ) (then_up else_up : Option Parent) (inner : List Span)
      → one ≡ old ++ Head s ∷ [] → two ≡ one ++ places_of a m then_up inner → new ≡ two ++ places_of b k else_up others → inner ≡ others ++ record { from = from; to = to } ∷ [] → then_up ≡ Some (record { point = p; label = true })
      → else_up ≡ Some (record { point = p; label = false }) → p ≡ n → m ≡ n + 1 → k ≡ n + 1 + part_count a → from ≡ n + 1 + part_count a → to ≡ n + 1 + part_count a + part_count b → new ≡ old ++ places_of (before s done) n up others
  stmt_if s t e a b is old one two new n m k p from to then_up else_up inner first second third span under_then under_else same next other from_is to_is =
      let at : ℕ = n + 1 + part_count a in
      let end : ℕ = at + part_count b in
      let spans : inner ≡ others ++ record { from = at; to = end } ∷ [] = span ∙ ap (λ (i : ℕ). others ++ record { from = i; to = to } ∷ []) from_is ∙ ap (λ (i : ℕ). others ++ record { from = at; to = i } ∷ []) to_is in
      let up_then : then_up ≡ Some (record { point = n; label = true }) = under_then ∙ ap (λ (i : ℕ). Some (record { point = i; label = true })) same in
      let up_else : else_up ≡ Some (record { point = n; label = false }) = under_else ∙ ap (λ (i : ℕ). Some (record { point = i; label = false })) same in
      let left : List Place = places_of a (n + 1) (Some (record { point = n; label = true })) (others ++ record { from = at; to = end } ∷ []) in
      let right : List Place = places_of b at (Some (record { point = n; label = false })) others in
      let lefts : places_of a m then_up inner ≡ left =
      ap (λ (i : ℕ). places_of a i then_up inner) next ∙ ap (λ (q : Option Parent). places_of a (n + 1) q inner) up_then ∙ ap (λ (r : List Span). places_of a (n + 1) (Some (record { point = n; label = true })) r) spans in
      let rights : places_of b k else_up others ≡ right = ap (λ (i : ℕ). places_of b i else_up others) other ∙ ap (λ (q : Option Parent). places_of b at q others) up_else in
      third
      ∙ ap (λ (ps : List Place). ps ++ places_of b k else_up others) (second ∙ ap (λ (ps : List Place). ps ++ places_of a m then_up inner) first)
      ∙ ap (λ (ps : List Place). ((old ++ Head s ∷ []) ++ ps) ++ places_of b k else_up others) lefts
      ∙ ap (λ (ps : List Place). ((old ++ Head s ∷ []) ++ left) ++ ps) rights
      ∙ append_assoc (old ++ Head s ∷ []) left right
      ∙ append_assoc old (Head s ∷ []) (left ++ right)
      ∙ ap (λ (r : Stmt). old ++ Head r ∷ (left ++ right)) is
      ∙ ap (λ (ps : List Place). old ++ Head (If t e a b) ∷ (left ++ ps)) (sym (append-nil right))
      ∙ sym (ap (λ (r : Stmt). old ++ places_of (before r done) n up others) is)
