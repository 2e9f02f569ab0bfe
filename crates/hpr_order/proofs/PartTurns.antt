-- The parts of a block as vertices, statement by statement.
use Rattle.std.proofs.Common.{◌≡◌, ℕ, ◌+◌, true, false, Some, None, List, [], ◌∷◌, ◌++◌, map, refl, sym, ap, ap₂, ◌∙◌, append_assoc}
use Rattle.std.proofs.lemmas.List.{append-nil, map-append}
use Rattle.hpr_terms.specs.declared.tag.Tag.{Tag}
use Rattle.hpr_terms.specs.declared.expr.Expr.{Expr}
use Rattle.hpr_syntax.specs.declared.rows.Row.{Row}
use Rattle.hpr_syntax.specs.declared.rows.Content.TheVariants as content
use Rattle.hpr_syntax.specs.declared.tree.Stmt.{Stmt}
use Rattle.hpr_syntax.specs.declared.tree.Stmt.TheVariants.{If, While}
use Rattle.hpr_syntax.specs.Body.{Body, done, action, branch, loop}
use Rattle.hpr_syntax.specs.BodyOf.{before}
use Rattle.hpr_syntax.specs.Parts.{tag_of}
use Rattle.hpr_syntax.specs.Rows.{Parent, content_by, content_of, rows_of}
use Rattle.hpr_syntax.proofs.RowLemmas.{rows_before}
use Rattle.hpr_graph.specs.declared.vertex.Vertex.{Vertex}
use Rattle.hpr_graph.specs.declared.vertex.Vertex.TheVariants.{Part}

abbrev part : Row → Vertex
part row = Part row.tag row.content

abbrev pub Parts : Body → List Vertex
Parts body = map (λ (row : Row). Part row.tag row.content) (rows_of None 0 body)

-- where a block stands is no matter
same_parts : (p q : Parent) (i j : ℕ) (b : Body) → map part (rows_of p i b) ≡ map part (rows_of q j b)
same_parts p q i j done = refl
same_parts p q i j (action t d rest) = ap (λ (l : List Vertex). Part t (content_by d) ∷ l) (same_parts p q (i + 1) (j + 1) rest)
same_parts p q i j (branch t e a b rest) =
    let inside : List Row = rows_of (Some (t, true)) 0 a ++ rows_of (Some (t, false)) 0 b in
    ap (λ (l : List Vertex). Part t (content.If e) ∷ l)
    (map-append part inside (rows_of p (i + 1) rest) ∙ ap (λ (l : List Vertex). map part inside ++ l) (same_parts p q (i + 1) (j + 1) rest) ∙ sym (map-append part inside (rows_of q (j + 1) rest)))
same_parts p q i j (loop t e b rest) =
    let inside : List Row = rows_of (Some (t, true)) 0 b in
    ap (λ (l : List Vertex). Part t (content.While e) ∷ l)
    (map-append part inside (rows_of p (i + 1) rest) ∙ ap (λ (l : List Vertex). map part inside ++ l) (same_parts p q (i + 1) (j + 1) rest) ∙ sym (map-append part inside (rows_of q (j + 1) rest)))

parts_before : (s : Stmt) (rest : Body) → Parts (before s rest) ≡ Parts (before s done) ++ Parts rest
parts_before s rest =
    ap (map part) (rows_before None 0 s rest) ∙ map-append part (rows_of None 0 (before s done)) (rows_of None (0 + 1) rest)
    ∙ ap (λ (l : List Vertex). Parts (before s done) ++ l) (same_parts None None (0 + 1) 0 rest)

-- one statement more
pub turn_parts : (old new target : List Vertex) (here rest : Body) (s : Stmt) → here ≡ before s rest → new ≡ old ++ Parts (before s done) → old ++ Parts here ≡ target → new ++ Parts rest ≡ target
turn_parts old new target here rest s is more whole =
    ap (λ (l : List Vertex). l ++ Parts rest) more
    ∙ append_assoc old (Parts (before s done)) (Parts rest)
    ∙ sym (ap (λ (l : List Vertex). old ++ l) (ap Parts is ∙ parts_before s rest))
    ∙ whole

abbrev Head : Stmt → Vertex
Head s = Part (tag_of s) (content_of s)

abbrev pub IsOther : Stmt → Type 0
IsOther s = ((t : Tag) (e : Expr) (a b : Body) → ¬ (s ≡ If t e a b)) × ((t : Tag) (e : Expr) (b : Body) → ¬ (s ≡ While t e b))

-- one statement with the parts in it: one without blocks, a loop, a conditional
pub parts_simple : (s : Stmt) → IsOther s → (old one : List Vertex) → one ≡ old ++ Head s ∷ [] → one ≡ old ++ Parts (before s done)
parts_simple (If t e a b) other old one first = absurd (other.0 t e a b refl)
parts_simple (While t e b) other old one first = absurd (other.1 t e b refl)
parts_simple s other old one first = first

pub parts_while : (s : Stmt) (t : Tag) (e : Expr) (b : Body) → s ≡ While t e b → (old one new : List Vertex) → one ≡ old ++ Head s ∷ [] → new ≡ one ++ Parts b → new ≡ old ++ Parts (before s done)
parts_while s t e b is old one new first more =
    let inside : List Row = rows_of (Some (t, true)) 0 b in
    let body : Parts b ≡ map part (inside ++ []) = same_parts None (Some (t, true)) 0 0 b ∙ ap (map part) (sym (append-nil inside)) in
    more ∙ ap (λ (l : List Vertex). l ++ Parts b) (first ∙ ap (λ (r : Stmt). old ++ Head r ∷ []) is)
    ∙ append_assoc old (Part t (content.While e) ∷ []) (Parts b)
    ∙ ap (λ (l : List Vertex). old ++ Part t (content.While e) ∷ l) body
    ∙ ap (λ (r : Stmt). old ++ Parts (before r done)) (sym is)

pub parts_if : (s : Stmt) (t : Tag) (e : Expr) (a b : Body) → s ≡ If t e a b → (old one two new : List Vertex) → one ≡ old ++ Head s ∷ [] → two ≡ one ++ Parts a → new ≡ two ++ Parts b → new ≡ old ++ Parts (before s done)
parts_if s t e a b is old one two new first then more =
    let yes : List Row = rows_of (Some (t, true)) 0 a in
    let other : List Row = rows_of (Some (t, false)) 0 b in
    let head : Vertex = Part t (content.If e) in
    let both : Parts a ++ Parts b ≡ map part ((yes ++ other) ++ []) =
    ap₂ (λ (k l : List Vertex). k ++ l) (same_parts None (Some (t, true)) 0 0 a) (same_parts None (Some (t, false)) 0 0 b) ∙ sym (map-append part yes other) ∙ ap (map part) (sym (append-nil (yes ++ other))) in
    more ∙ ap (λ (l : List Vertex). l ++ Parts b) (then ∙ ap (λ (l : List Vertex). l ++ Parts a) (first ∙ ap (λ (r : Stmt). old ++ Head r ∷ []) is))
    ∙ append_assoc (old ++ head ∷ []) (Parts a) (Parts b)
    ∙ append_assoc old (head ∷ []) (Parts a ++ Parts b)
    ∙ ap (λ (l : List Vertex). old ++ head ∷ l) both
    ∙ ap (λ (r : Stmt). old ++ Parts (before r done)) (sym is)
