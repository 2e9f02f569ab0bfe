-- A traced run is an observed one: the notes of the observer are those of the log.
--
-- numbers_of log == the numbers of the steps of a log, newest first, that last defined the names
-- notes_of log   == what is kept after the log
-- way_of s course == the course from the state s with its notes
use Rattle.std.proofs.Common.{◌≡◌, ℕ, zero, suc, ◌+◌, ◌-◌, Bool, true, false, List, [], ◌∷◌, ◌++◌, map, length, reverse, Option, Some, None, refl, sym, ap, ◌∙◌, arith, if◌then◌else◌, cond, Ok, Err}
use Rattle.hpr_syntax.specs.Contents.{Given, answer_of, next_state, holds, shown_of}
use mathlib.Core.List.{reverse_aux, reverse-cons}
use Rattle.std.proofs.lemmas.List.{reverse-reverse, length-reverse, length-append}
use Rattle.std.specs.FinMap.{empty, get, insert, get-insert, get-empty}
use Rattle.std.specs.Ordering.{is_eq}
use Rattle.std.specs.Cmp.Lexicographic.{nat_list_cmp_total}
use Rattle.hpr_terms.specs.declared.tag.Tag.{Tag}
use Rattle.hpr_terms.specs.declared.expr.Expr.{Expr}
use Rattle.hpr_syntax.specs.declared.rows.Content.{Content}
use Rattle.hpr_syntax.specs.declared.rows.Content.TheVariants.{If, While}
use Rattle.hpr_syntax.specs.Body.{Body, done, action, branch, loop}
use Rattle.hpr_syntax.specs.Rows.{content_by, assigned}
use Rattle.hpr_syntax.specs.Tree.{Tree}
use Rattle.hpr_syntax.specs.declared.value.Value.{Value}
use Rattle.hpr_syntax.specs.Values.{Values, value_at}
use Rattle.hpr_graph.specs.Order.{name_cmp}
use Rattle.hpr_run.specs.Observed.{Way, step_way, then_way, walk_turns, after_action, walk, known_in}
use Rattle.hpr_run.specs.Observed as way
use Rattle.hpr_paths.specs.Times.{Place}
use Rattle.hpr_meaning.specs.declared.traced.Origin.{Origin}
use Rattle.hpr_meaning.specs.declared.traced.Read.{Read}
use Rattle.hpr_meaning.specs.Any.Standard.{standard}
use Rattle.hpr_meaning.specs.Any.Instances.{read_of, reads_of, logged, goes, stops, step_at, then_go, turns_from, trace, log_of}
use Rattle.hpr_meaning.specs.Instances.{Instance, state_after, names_of, Course, course_of, instances}
use Rattle.hpr_meaning.proofs.Standard.{next_is}
use Rattle.hpr_meaning.specs.Items.{Item, reading_of, with_number, origin_in, read_after, item_after, items_after, items_of}
use Rattle.hpr_meaning.specs.Numbers.{Numbers}
use Rattle.hpr_meaning.specs.Notes.{Notes, origin_by, origin_at, no_notes, read_at, item_at, noted, tracing}

abbrev pub with_insert : Option (List ℕ) → ℕ → Numbers → Numbers
with_insert None n ns = ns
with_insert (Some x) n ns = insert ns x n

abbrev pub numbers_of : List Instance → Numbers
numbers_of [] = empty
numbers_of (i ∷ log) = with_insert (assigned i.1.content) (length log) (numbers_of log)

abbrev pub notes_of : List Instance → Notes
notes_of log = record { definers = numbers_of log; items = items_of (reverse log) }

abbrev pub way_of : Values → Course → Way Notes
way_of s (goes log left) = way.goes (notes_of log) (state_after s log) left
way_of s (stops a None log left) = way.spent (notes_of log)
way_of s (stops a (Some f) log left) = way.stops a.0 f (notes_of log) left

-- the origins by the map and by the log
cond_origin : (b : Bool) (n : ℕ) (o : Option ℕ) → origin_by (cond b (Some n) o) ≡ (if b then origin_by (Some n) else origin_by o)
cond_origin true n o = refl
cond_origin false n o = refl

insert_origin : (o : Option (List ℕ)) (n : ℕ) (ns : Numbers) (x : List ℕ) → origin_at (with_insert o n ns) x ≡ with_number o n x (origin_at ns x)
insert_origin None n ns x = refl
insert_origin (Some y) n ns x = ap origin_by (get-insert nat_list_cmp_total ns y n x) ∙ cond_origin (is_eq (name_cmp x y)) n (get ns x)

origins : (log : List Instance) (x : List ℕ) → origin_at (numbers_of log) x ≡ origin_in x log
origins [] x = ap origin_by (get-empty name_cmp x)
origins (i ∷ log) x =
    insert_origin (assigned i.1.content) (length log) (numbers_of log) x ∙ ap (with_number (assigned i.1.content) (length log) x) (origins log x)

-- the reads by the notes and by the log
one_read : (s : Values) (log : List Instance) (x : List ℕ) → read_at (state_after s log) (notes_of log) x ≡ read_after log (read_of standard s log x)
one_read s log x = ap (λ (o : Origin). record { name = x; value = reading_of (value_at (state_after s log) x); origin = o }) (origins log x)

all_reads : (s : Values) (log : List Instance) (names : List (List ℕ))
    → map (read_at (state_after s log) (notes_of log)) names ≡ map (read_after log) (map (read_of standard s log) names)
all_reads s log [] = refl
all_reads s log (x ∷ names) =
    ap (λ (r : Read). r ∷ map (read_at (state_after s log) (notes_of log)) names) (one_read s log x)
    ∙ ap (λ (l : List Read). read_after log (read_of standard s log x) ∷ l) (all_reads s log names)

one_item : (s : Values) (a : Place) (c : Content) (v : Value) (log : List Instance)
    → item_at a c (shown_of c (state_after s log)) (state_after s log) (notes_of log) ≡ item_after log (a, record { content = c; reads = reads_of standard c s log; gave = v; number = shown_of c (state_after s log) })
one_item s a c v log = ap (λ (l : List Read). record { tag = a.0; turns = a.1; reads = l; value = shown_of c (state_after s log) }) (all_reads s log (names_of c))

-- the items, one by one
items_split : (log xs ys : List Instance) → items_after log (xs ++ ys) ≡ items_after log xs ++ items_after (reverse_aux xs log) ys
items_split log [] ys = refl
items_split log (x ∷ xs) ys = ap (λ (l : List Item). item_after log x ∷ l) (items_split (x ∷ log) xs ys)

items_more : (log : List Instance) (i : Instance) → items_of (reverse (i ∷ log)) ≡ items_of (reverse log) ++ item_after log i ∷ []
items_more log i =
    ap items_of (reverse-cons i log)
    ∙ items_split [] (reverse log) (i ∷ [])
    ∙ ap (λ (l : List Instance). items_of (reverse log) ++ item_after l i ∷ []) (reverse-reverse log)

items_length : (log xs : List Instance) → length (items_after log xs) ≡ length xs
items_length log [] = refl
items_length log (x ∷ xs) = ap suc (items_length (x ∷ log) xs)

items_count : (log : List Instance) → length (items_of (reverse log)) ≡ length log
items_count log = items_length [] (reverse log) ∙ length-reverse log

logged_items : (s : Values) (a : Place) (c : Content) (v : Value) (log : List Instance)
    → items_of (reverse (logged standard a c v s log)) ≡ items_of (reverse log) ++ item_at a c (shown_of c (state_after s log)) (state_after s log) (notes_of log) ∷ []
logged_items s a c v log =
    items_more log (a, record { content = c; reads = reads_of standard c s log; gave = v; number = shown_of c (state_after s log) })
    ∙ ap (λ (i : Item). items_of (reverse log) ++ i ∷ []) (sym (one_item s a c v log))

-- one step
defined_last : (o : Option (List ℕ)) (ns : Numbers) (items : List Item) (n : ℕ) → n ≡ length items - 1
    → record { definers = with_insert o n ns; items = items } ≡ after_action tracing o (record { definers = ns; items = items })
defined_last None ns items n e = refl
defined_last (Some x) ns items n e = ap (λ (k : ℕ). record { definers = insert ns x k; items = items }) e

logged_noted : (s : Values) (t : Tag) (around : List ℕ) (c : Content) (v : Value) (log : List Instance)
    → notes_of (logged standard (t, around) c v s log) ≡ after_action tracing (assigned c) (noted around t c (shown_of c (state_after s log)) (state_after s log) (notes_of log))
logged_noted s t around c v log =
    let before = items_of (reverse log) in
    let new = item_at (t, around) c (shown_of c (state_after s log)) (state_after s log) (notes_of log) in
    let count : length log ≡ length (before ++ new ∷ []) - 1 = omega (arith, items_count log, length-append before (new ∷ [])) in
    ap (λ (l : List Item). record { definers = with_insert (assigned c) (length log) (numbers_of log); items = l }) (logged_items s (t, around) c v log)
    ∙ defined_last (assigned c) (numbers_of log) (before ++ new ∷ []) (length log) count

-- the whole
step_walk : (s : Values) (a : Place) (answer : Given) (log : List Instance) (left : ℕ) (go : Value → ℕ → Course) (go' : Value → ℕ → Way Notes)
    → ((v : Value) (l : ℕ) → way_of s (go v l) ≡ go' v l) → way_of s (step_at standard a answer log left go) ≡ step_way a.0 answer (notes_of log) left go'
step_walk s a answer log zero go go' h = refl
step_walk s a (Ok v) log (suc left) go go' h = h v left
step_walk s a (Err f) log (suc left) go go' h = refl

then_walk : (s : Values) (x : Course) (y : Way Notes) (go : List Instance → ℕ → Course) (go' : Notes → Values → ℕ → Way Notes)
    → way_of s x ≡ y → ((log : List Instance) (l : ℕ) → way_of s (go log l) ≡ go' (notes_of log) (state_after s log) l)
    → way_of s (then_go standard x go) ≡ then_way y go'
then_walk s (goes log left) y go go' e h = h log left ∙ ap (λ z. then_way z go') e
then_walk s (stops a None log left) y go go' e h = ap (λ z. then_way z go') e
then_walk s (stops a (Some f) log left) y go go' e h = ap (λ z. then_way z go') e

if_walk : (s : Values) (b : Bool) (x y : Course) (x' y' : Way Notes) → way_of s x ≡ x' → way_of s y ≡ y' → way_of s (if b then x else y) ≡ (if b then x' else y')
if_walk s true x y x' y' p q = p
if_walk s false x y x' y' p q = q

turns_walk : (s : Values) (k n : ℕ) (t : Tag) (e : Expr) (body : List ℕ → List Instance → ℕ → Course) (body' : List ℕ → Notes → Values → ℕ → Way Notes)
    → ((around : List ℕ) (log : List Instance) (l : ℕ) → way_of s (body around log l) ≡ body' around (notes_of log) (state_after s log) l)
    → (around : List ℕ) (log : List Instance) (left : ℕ)
    → way_of s (turns_from standard k n t e body s around log left) ≡ walk_turns tracing k n t e body' around (notes_of log) (state_after s log) left
turns_walk s k zero t e body body' h around log left = refl
turns_walk s k (suc n) t e body body' h around log left =
    step_walk s (t, around ++ k ∷ []) (answer_of (While e) (state_after s log)) log left _ _ (λ v l.
    let seen = logged_noted s t (around ++ k ∷ []) (While e) v log in
    if_walk s (holds v) _ _ _ _
    (then_walk s (body (around ++ k ∷ []) (logged standard (t, around ++ k ∷ []) (While e) v s log) l) _ _ _
    (h (around ++ k ∷ []) (logged standard (t, around ++ k ∷ []) (While e) v s log) l ∙ ap (λ (m : Notes). body' (around ++ k ∷ []) m (state_after s log) l) seen)
    (λ log' l'. turns_walk s (suc k) n t e body body' h around log' l'))
    (ap (λ (m : Notes). way.goes m (state_after s log) l) seen))

trace_walk : (s : Values) (b : Body) (around : List ℕ) (log : List Instance) (left : ℕ)
    → way_of s (trace standard s b around log left) ≡ walk tracing b around (notes_of log) (state_after s log) left
trace_walk s done around log left = refl
trace_walk s (action t d rest) around log left =
    let c = content_by d in
    step_walk s (t, around) (answer_of c (state_after s log)) log left _ _ (λ v l.
    trace_walk s rest around (logged standard (t, around) c v s log) l
    ∙ ap (λ (r : Values). walk tracing rest around (notes_of (logged standard (t, around) c v s log)) r l) (next_is d v (state_after s log))
    ∙ ap (λ (m : Notes). walk tracing rest around m (next_state c v (state_after s log)) l) (logged_noted s t around c v log))
trace_walk s (branch t e a b rest) around log left =
    step_walk s (t, around) (answer_of (If e) (state_after s log)) log left _ _ (λ v l.
    let seen = logged_noted s t around (If e) v log in
    then_walk s (if holds v then trace standard s a around (logged standard (t, around) (If e) v s log) l else trace standard s b around (logged standard (t, around) (If e) v s log) l) _ _ _
    (if_walk s (holds v) _ _ _ _
    (trace_walk s a around (logged standard (t, around) (If e) v s log) l ∙ ap (λ (m : Notes). walk tracing a around m (state_after s log) l) seen)
    (trace_walk s b around (logged standard (t, around) (If e) v s log) l ∙ ap (λ (m : Notes). walk tracing b around m (state_after s log) l) seen))
    (λ log' l'. trace_walk s rest around log' l'))
trace_walk s (loop t e b rest) around log left =
    then_walk s (turns_from standard 0 (left + 1) t e (trace standard s b) s around log left) _ _ _
    (turns_walk s 0 (left + 1) t e (trace standard s b) (walk tracing b) (trace_walk s b) around log left) (λ log' l'. trace_walk s rest around log' l')

-- what the observer of a whole run knows
same_notes : (s : Values) (c : Course) → known_in (way_of s c) ≡ notes_of (log_of standard c)
same_notes s (goes log left) = refl
same_notes s (stops a None log left) = refl
same_notes s (stops a (Some f) log left) = refl

pub items_told : (p : Tree) (s : Values) (n : ℕ) → (known_in (walk tracing p.body [] no_notes s n)).items ≡ items_of (instances p s n)
items_told p s n =
    ap (λ (x : Way Notes). (known_in x).items) (sym (trace_walk s p.body [] [] n)) ∙ ap (λ (m : Notes). m.items) (same_notes s (course_of p s n))
