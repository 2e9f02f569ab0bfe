-- What is spelled is accepted.
use Rattle.std.proofs.Common.{◌≡◌, ℕ, ◌+◌, ◌<◌, List, [], ◌∷◌, ◌++◌, length, Bool, true, false, Option, Some, None, is_some, refl, ap, sym, subst, ◌∙◌, map, append_assoc, arith}
use Rattle.std.proofs.lemmas.Bool.{lt-ltb, le-leb}
use Rattle.std.proofs.lemmas.List.{append-nil}
use Rattle.hpr_terms.specs.declared.limits.TheConstants.{MAX_LEVELS}
use Rattle.hpr_terms.specs.declared.tag.Tag.{Tag}
use Rattle.hpr_terms.specs.declared.expr.Expr.{Expr}
use Rattle.hpr_terms.specs.declared.keyword.Keyword.TheVariants.{Program, Issued, End, If, Then, Else, Fi, While, Do, Od, Write, Out}
use Rattle.hpr_terms.specs.declared.token.Sign.TheVariants.{Colon, Becomes, Dot, Comma, Semicolon, Open, Close, OpenSquare, CloseSquare}
use Rattle.hpr_terms.specs.declared.token.Token.{Token}
use Rattle.hpr_terms.specs.declared.token.Token.TheVariants.{Word, Name, Number, Mark}
use Rattle.hpr_terms.proofs.Facts.{some_inj}
use Rattle.hpr_terms.specs.Names.{stream, IsName, is_name, array_of}
use Rattle.hpr_terms.specs.Term.{operators}
use Rattle.hpr_terms.specs.TermOf.{term_of}
use Rattle.hpr_syntax.specs.Action.{Action, assigns, writes, stores}
use Rattle.hpr_syntax.specs.Body.{Body, done, action, branch, loop}
use Rattle.hpr_syntax.specs.Parts.{tags_of}
use Rattle.hpr_syntax.specs.Issued as issued
use Rattle.hpr_syntax.specs.Tree.{Tree}
use Rattle.hpr_syntax.specs.Grammar as grammar
use Rattle.hpr_syntax.specs.Grammar.{Form, IsAuthor, IsSerial, IsTag, IsIssuedPair, Labels, SpellsExpr, SpellsStore, SpellsParts, SpellsPairs, SpellsHeader, SpellsFinal, SpellsNames, SpellsProgram, tag_pair, pair_then, issued_of}
use Rattle.hpr_scan.specs.Steps.{and_then, runs}
use Rattle.hpr_text.specs.declared.blocks.Around.{Around}
use Rattle.hpr_text.specs.declared.blocks.Begun.{Begun}
use Rattle.hpr_text.specs.declared.blocks.Begun.TheVariants as begun
use Rattle.hpr_expressions.specs.declared.expression.Reading.{Reading}
use Rattle.hpr_text.specs.declared.form.Mode.{Mode}
use Rattle.hpr_text.specs.declared.form.Mode.TheVariants.{Tagged, Untagged}
use Rattle.hpr_text.specs.declared.found.Found.{Found}
use Rattle.hpr_text.specs.declared.state.Purpose.{Purpose}
use Rattle.hpr_text.specs.declared.state.Purpose.TheVariants.{Assign, Test, Guard, Output, Store}
use Rattle.hpr_text.specs.declared.state.Place.{Place}
use Rattle.hpr_text.specs.declared.state.Place.TheVariants.{AfterProgram, BeforePair, AfterPairAuthor, AfterPairColon, AfterPair, AtPart, AfterAuthor, AfterDot, AfterSerial, AfterColon, AfterTarget, InIndex, AfterIndex, InExpression, AfterEnd, AfterOpen, AfterName, AfterNameOpen, AfterFinal, AfterComma, AtEnd}
use Rattle.hpr_text.specs.declared.state.State.{State}
use Rattle.hpr_expressions.specs.Expression.{start, start_after, counted_in, read, ended}
use Rattle.hpr_text.specs.Forms.{form_of}
use Rattle.hpr_text.specs.Machine.{then_parts, with_number, with_header, with_tag, with_count, tag_raised, given, tag_given, begun_in, first_next, tag_next, colon_next, with_part, around, in_then, in_loop, with_name, state_at, next, nothing_found, initially, accepted, may_end}
use Rattle.hpr_text.specs.Laws.{goes_read, goes_in_index}
use Rattle.hpr_text.proofs.Parts.{then_assoc, then_done, tags_raise, tally}
use Rattle.hpr_expressions.proofs.WholeExpression.{expression_read, expression_read_after}
use Rattle.hpr_expressions.proofs.Spelled.{read_as_spelled_after}

-- a token that is taken
run_one : (s n : State) (t : Token) (ts : List Token) → next None s t ≡ Some n → runs (next None) s (t ∷ ts) ≡ runs (next None) n ts
run_one s n t ts e = rw e refl

-- ---- expressions

abbrev reading : Found → Purpose → Reading → State
reading f p r = state_at f (InExpression p r)

-- where a token leads a reading, it leads the machine of programs at this place
abbrev GoesOn : Found → (Reading → Place) → Type 0
GoesOn f p = (r n : Reading) (t : Token) → read r t ≡ Some n → next None (state_at f (p r)) t ≡ Some (state_at f (p n))

reads_at : (f : Found) (p : Reading → Place) → GoesOn f p → (r n : Reading) (t : Token) (ts rest : List Token) (o : Option Reading) → read r t ≡ o → and_then o (λ m. runs read m ts) ≡ Some n
    → ((m : Reading) → runs read m ts ≡ Some n → runs (next None) (state_at f (p m)) (ts ++ rest) ≡ runs (next None) (state_at f (p n)) rest)
    → runs (next None) (state_at f (p r)) (t ∷ (ts ++ rest)) ≡ runs (next None) (state_at f (p n)) rest
reads_at f p on r n t ts rest None e q go = absurd cc
reads_at f p on r n t ts rest (Some m) e q go = run_one _ (state_at f (p m)) t (ts ++ rest) (on r m t e) ∙ go m q

-- so do many tokens
lift : (f : Found) (p : Reading → Place) → GoesOn f p → (r n : Reading) (ts rest : List Token) → runs read r ts ≡ Some n
    → runs (next None) (state_at f (p r)) (ts ++ rest) ≡ runs (next None) (state_at f (p n)) rest
lift f p on r n [] rest e = ap (λ (m : Reading). runs (next None) (state_at f (p m)) rest) (some_inj _ _ e)
lift f p on r n (t ∷ ts) rest e = reads_at f p on r n t ts rest (read r t) refl e (λ m q. lift f p on m n ts rest q)

in_expression : (f : Found) (p : Purpose) → GoesOn f (InExpression p)
in_expression f p r n t e = goes_read None f p r n t e

value_step : (f : Found) (t : Tag) (x : List ℕ) (r : Reading) (e : Expr) → ended r ≡ Some e → next None (reading f (Assign t x) r) (Mark Semicolon) ≡ Some (state_at (with_part None t (assigns x e) f) AtPart)
unfolding next
value_step f t x r e h = rw h refl

write_step : (f : Found) (t : Tag) (r : Reading) (e : Expr) → ended r ≡ Some e → next None (reading f (Output t) r) (Mark Semicolon) ≡ Some (state_at (with_part None t (writes stream e) f) AtPart)
unfolding next
write_step f t r e h = rw h refl

store_step : (f : Found) (t : Tag) (a : List ℕ) (i : Expr) (r : Reading) (e : Expr) → ended r ≡ Some e
    → next None (reading f (Store t a i) r) (Mark Semicolon) ≡ Some (state_at (with_part None t (stores a i e) f) AtPart)
unfolding next
store_step f t a i r e h = rw h refl

index_step : (f : Found) (t : Tag) (a : List ℕ) (r : Reading) (i : Expr) → ended r ≡ Some i → next None (state_at f (InIndex t a r)) (Mark CloseSquare) ≡ Some (state_at f (AfterIndex t a i (counted_in r)))
unfolding next
index_step f t a r i h = rw h refl

index_becomes : (f : Found) (t : Tag) (a : List ℕ) (i : Expr) (k : ℕ) → next None (state_at f (AfterIndex t a i k)) (Mark Becomes) ≡ Some (reading f (Store t a i) (start_after k))
unfolding next
index_becomes f t a i k = refl

then_step : (f : Found) (t : Tag) (r : Reading) (e : Expr) → ended r ≡ Some e → next None (reading f (Test t) r) (Word Then) ≡ Some (state_at (in_then t e f) AtPart)
unfolding next
then_step f t r e h = rw h refl

do_step : (f : Found) (t : Tag) (r : Reading) (e : Expr) → ended r ≡ Some e → next None (reading f (Guard t) r) (Word Do) ≡ Some (state_at (in_loop t e f) AtPart)
unfolding next
do_step f t r e h = rw h refl

value_runs : (ts : List Token) (e : Expr) → SpellsExpr ts e → (f : Found) (t : Tag) (x : List ℕ) (rest : List Token)
    → runs (next None) (reading f (Assign t x) start) (ts ++ (Mark Semicolon ∷ rest)) ≡ runs (next None) (state_at (with_part None t (assigns x e) f) AtPart) rest
value_runs ts e s f t x rest =
    let n = expression_read ts e s in
    lift f (InExpression (Assign t x)) (in_expression f (Assign t x)) start n.0 ts (Mark Semicolon ∷ rest) n.1 ∙ run_one _ (state_at (with_part None t (assigns x e) f) AtPart) (Mark Semicolon) rest (value_step f t x n.0 e n.2)

write_runs : (ts : List Token) (e : Expr) → SpellsExpr ts e → (f : Found) (t : Tag) (rest : List Token)
    → runs (next None) (reading f (Output t) start) (ts ++ (Mark Semicolon ∷ rest)) ≡ runs (next None) (state_at (with_part None t (writes stream e) f) AtPart) rest
write_runs ts e s f t rest =
    let n = expression_read ts e s in
    lift f (InExpression (Output t)) (in_expression f (Output t)) start n.0 ts (Mark Semicolon ∷ rest) n.1 ∙ run_one _ (state_at (with_part None t (writes stream e) f) AtPart) (Mark Semicolon) rest (write_step f t n.0 e n.2)

-- the two expressions of a store, with the tokens between them
store_runs : (index value : List Token) (i e : Expr) → SpellsStore index value i e → (f : Found) (t : Tag) (a : List ℕ) (rest : List Token)
    → runs (next None) (state_at f (InIndex t a start)) (index ++ (Mark CloseSquare ∷ Mark Becomes ∷ (value ++ (Mark Semicolon ∷ rest))))
    ≡ runs (next None) (state_at (with_part None t (stores a i e) f) AtPart) rest
store_runs index value i e both f t a rest =
    let tail : List Token = value ++ (Mark Semicolon ∷ rest) in
    let n = expression_read_after 0 index i (both.0, omega (arith, both.2)) in
    let k : ℕ = counted_in n.0 in
    let count : k ≡ 0 + operators (term_of i) = read_as_spelled_after.counts 0 index i n.0 (omega arith) n.1 n.2 in
    let m = expression_read_after k value e (both.1, omega (arith, both.2, count)) in
    lift f (InIndex t a) (λ r u b q. goes_in_index None f t a r u b q) start n.0 index (Mark CloseSquare ∷ Mark Becomes ∷ tail) n.1
    ∙ run_one _ (state_at f (AfterIndex t a i k)) (Mark CloseSquare) (Mark Becomes ∷ tail) (index_step f t a n.0 i n.2)
    ∙ run_one _ (reading f (Store t a i) (start_after k)) (Mark Becomes) tail (index_becomes f t a i k)
    ∙ lift f (InExpression (Store t a i)) (in_expression f (Store t a i)) (start_after k) m.0 value (Mark Semicolon ∷ rest) m.1
    ∙ run_one _ (state_at (with_part None t (stores a i e) f) AtPart) (Mark Semicolon) rest (store_step f t a i m.0 e m.2)

test_runs : (ts : List Token) (e : Expr) → SpellsExpr ts e → (f : Found) (t : Tag) (rest : List Token)
    → runs (next None) (reading f (Test t) start) (ts ++ (Word Then ∷ rest)) ≡ runs (next None) (state_at (in_then t e f) AtPart) rest
test_runs ts e s f t rest =
    let n = expression_read ts e s in
    lift f (InExpression (Test t)) (in_expression f (Test t)) start n.0 ts (Word Then ∷ rest) n.1 ∙ run_one _ (state_at (in_then t e f) AtPart) (Word Then) rest (then_step f t n.0 e n.2)

guard_runs : (ts : List Token) (e : Expr) → SpellsExpr ts e → (f : Found) (t : Tag) (rest : List Token)
    → runs (next None) (reading f (Guard t) start) (ts ++ (Word Do ∷ rest)) ≡ runs (next None) (state_at (in_loop t e f) AtPart) rest
guard_runs ts e s f t rest =
    let n = expression_read ts e s in
    lift f (InExpression (Guard t)) (in_expression f (Guard t)) start n.0 ts (Word Do ∷ rest) n.1 ∙ run_one _ (state_at (in_loop t e f) AtPart) (Word Do) rest (do_step f t n.0 e n.2)

-- ---- the header

author_step : (f : Found) (a : ℕ) → IsAuthor a → next None (state_at f BeforePair) (Number a) ≡ Some (state_at f (AfterPairAuthor a))
unfolding next
author_step f a lt = rw (lt-ltb _ _ lt) refl

colon_step : (f : Found) (a : ℕ) → next None (state_at f (AfterPairAuthor a)) (Mark Colon) ≡ Some (state_at f (AfterPairColon a))
unfolding next
colon_step f a = refl

number_step : (f : Found) (a n : ℕ) → IsSerial n → next None (state_at f (AfterPairColon a)) (Number n) ≡ Some (state_at (with_number a n f) AfterPair)
unfolding next
number_step f a n is = rw (le-leb _ _ is.0, lt-ltb _ _ is.1) refl

comma_step : (f : Found) → next None (state_at f AfterPair) (Mark Comma) ≡ Some (state_at f BeforePair)
unfolding next
comma_step f = refl

pair_runs : (f : Found) (p : ℕ × ℕ) (rest : List Token) → IsIssuedPair p → runs (next None) (state_at f BeforePair) (pair_then p rest) ≡ runs (next None) (state_at (with_number p.0 p.1 f) AfterPair) rest
pair_runs f p rest is =
    run_one _ (state_at f (AfterPairAuthor p.0)) _ (Mark Colon ∷ Number p.1 ∷ rest) (author_step f p.0 is.0) ∙ run_one _ (state_at f (AfterPairColon p.0)) _ (Number p.1 ∷ rest) (colon_step f p.0)
    ∙ run_one _ (state_at (with_number p.0 p.1 f) AfterPair) _ rest (number_step f p.0 p.1 is.1)

abbrev with_pairs : List (ℕ × ℕ) → Found → Found
with_pairs ps f = record f { issued = issued.raised_by ps f.issued }

pairs_run : {ts : List Token} {ps : List (ℕ × ℕ)} → SpellsPairs ts ps → (f : Found) (rest : List Token) → runs (next None) (state_at f BeforePair) (ts ++ rest) ≡ runs (next None) (state_at (with_pairs ps f) AfterPair) rest
pairs_run (grammar.one {p = p} is) f rest = pair_runs f p rest is
pairs_run (grammar.more {p = p} {ts = ts} {ps = ps} is s) f rest =
    pair_runs f p (Mark Comma ∷ (ts ++ rest)) is ∙ run_one _ (state_at (with_number p.0 p.1 f) BeforePair) (Mark Comma) (ts ++ rest) (comma_step (with_number p.0 p.1 f))
    ∙ pairs_run s (with_number p.0 p.1 f) rest

-- ---- parts

tag_author_step : (f : Found) (a : ℕ) → f.mode ≡ Tagged → IsAuthor a → length f.blocks < MAX_LEVELS → next None (state_at f AtPart) (Number a) ≡ Some (state_at f (AfterAuthor a))
unfolding next
tag_author_step f a e lt room = ap (λ (o : Mode). tag_next o f a) e ∙ rw (lt-ltb _ _ room, lt-ltb _ _ lt) refl

dot_step : (f : Found) (a : ℕ) → next None (state_at f (AfterAuthor a)) (Mark Dot) ≡ Some (state_at f (AfterDot a))
unfolding next
dot_step f a = refl

serial_step : (f : Found) (t : Tag) → IsTag t → next None (state_at f (AfterDot t.author)) (Number t.serial) ≡ Some (state_at (with_tag t f) (AfterSerial t))
unfolding next
serial_step f t is = rw (le-leb _ _ is.1.0, lt-ltb _ _ is.1.1) refl

tag_colon_step : (f : Found) (t : Tag) → next None (state_at f (AfterSerial t)) (Mark Colon) ≡ Some (state_at f (AfterColon t))
unfolding next
tag_colon_step f t = refl

square_step : (f : Found) (t : Tag) (x : List ℕ) → IsName x → next None (state_at f (AfterTarget t x)) (Mark OpenSquare) ≡ Some (state_at f (InIndex t (array_of x) start))
unfolding next
square_step f t x name = let plain : is_name x ≡ true = name in rw plain refl

becomes_step : (f : Found) (t : Tag) (x : List ℕ) → next None (state_at f (AfterTarget t x)) (Mark Becomes) ≡ Some (reading f (Assign t x) start)
unfolding next
becomes_step f t x = refl

colon_step_is : (f : Found) (g : Tag) (t : Token) → next None (state_at f (AfterColon g)) t ≡ colon_next f g t
unfolding next
colon_step_is f g t = refl

abbrev found : Mode → ℕ → Bool → issued.Issued → List Begun → Body → List (List ℕ) → Found
found mode count header is blocks parts names =
    record { mode = mode; count = count; has_header = header; issued = is; blocks = blocks; parts = parts; names = names }

else_step : (m : Mode) (c : ℕ) (h : Bool) (is : issued.Issued) (r : Around) (os : List Begun) (b : Body) (ns : List (List ℕ))
    → next None (state_at (found m c h is (begun.Then r ∷ os) b ns) AtPart) (Word Else) ≡ Some (state_at (found m c h is (begun.Else r b ∷ os) done ns) AtPart)
unfolding next
else_step m c h is r os b ns = refl

fi_step : (m : Mode) (c : ℕ) (h : Bool) (is : issued.Issued) (r : Around) (os : List Begun) (b : Body) (ns : List (List ℕ))
    → next None (state_at (found m c h is (begun.Then r ∷ os) b ns) AtPart) (Word Fi) ≡ Some (state_at (found m c h is os (then_parts r.before (branch r.tag r.test b done done)) ns) AtPart)
unfolding next
fi_step m c h is r os b ns = refl

last_fi_step : (m : Mode) (c : ℕ) (h : Bool) (is : issued.Issued) (r : Around) (first : Body) (os : List Begun) (b : Body) (ns : List (List ℕ))
    → next None (state_at (found m c h is (begun.Else r first ∷ os) b ns) AtPart) (Word Fi) ≡ Some (state_at (found m c h is os (then_parts r.before (branch r.tag r.test first b done)) ns) AtPart)
unfolding next
last_fi_step m c h is r first os b ns = refl

od_step : (m : Mode) (c : ℕ) (h : Bool) (is : issued.Issued) (r : Around) (os : List Begun) (b : Body) (ns : List (List ℕ))
    → next None (state_at (found m c h is (begun.Loop r ∷ os) b ns) AtPart) (Word Od) ≡ Some (state_at (found m c h is os (then_parts r.before (loop r.tag r.test b done)) ns) AtPart)
unfolding next
od_step m c h is r os b ns = refl

abbrev label_then : Tag → List Token → List Token
label_then t ts = Number t.author ∷ Mark Dot ∷ Number t.serial ∷ Mark Colon ∷ ts

tag_runs : (f : Found) (t : Tag) (rest : List Token) → f.mode ≡ Tagged → IsTag t → length f.blocks < MAX_LEVELS
    → runs (next None) (state_at f AtPart) (label_then t rest) ≡ runs (next None) (state_at (with_tag t f) (AfterColon t)) rest
tag_runs f t rest e is room =
    run_one _ (state_at f (AfterAuthor t.author)) _ (Mark Dot ∷ Number t.serial ∷ Mark Colon ∷ rest) (tag_author_step f t.author e is.0 room)
    ∙ run_one _ (state_at f (AfterDot t.author)) _ (Number t.serial ∷ Mark Colon ∷ rest) (dot_step f t.author)
    ∙ run_one _ (state_at (with_tag t f) (AfterSerial t)) _ (Mark Colon ∷ rest) (serial_step f t is) ∙ run_one _ (state_at (with_tag t f) (AfterColon t)) _ rest (tag_colon_step (with_tag t f) t)

-- the first token of a part
data Begins : Token → Type 0 where
  a_name : (x : List ℕ) → Begins (Name x)
  a_test : Begins (Word If)
  a_guard : Begins (Word While)
  a_write : Begins (Word Write)

-- with the tag of a part that begins behind n others
abbrev labelled : ℕ → Tag → Found → Found
labelled n t f = record (with_tag t f) { count = tally f.mode (n + 1) }

first_step : (f : Found) (a : ℕ) (t : Token) → Begins t → f.mode ≡ Untagged a → length f.blocks < MAX_LEVELS
    → next None (state_at f AtPart) t ≡ colon_next (given (f.count + 1) (tag_given None a (f.count + 1)) f).0 (tag_given None a (f.count + 1)) t
unfolding next
first_step f a t (a_name x) e room = ap (λ (o : Mode). first_next (begun_in None o f) (Name x)) e ∙ rw (lt-ltb _ _ room) refl
first_step f a t a_test e room = ap (λ (o : Mode). first_next (begun_in None o f) (Word If)) e ∙ rw (lt-ltb _ _ room) refl
first_step f a t a_guard e room = ap (λ (o : Mode). first_next (begun_in None o f) (Word While)) e ∙ rw (lt-ltb _ _ room) refl
first_step f a t a_write e room = ap (λ (o : Mode). first_next (begun_in None o f) (Word Write)) e ∙ rw (lt-ltb _ _ room) refl

-- a label and the first token of a part
label_runs : (f : Found) (o : Mode) (n : ℕ) (label : List Token) (g : Tag) (t : Token) (s : State) (rest : List Token) → f.mode ≡ o → f.count ≡ tally f.mode n → Labels (form_of o) n label g → Begins t
    → length f.blocks < MAX_LEVELS → colon_next (labelled n g f) g t ≡ Some s → runs (next None) (state_at f AtPart) (label ++ (t ∷ rest)) ≡ runs (next None) s rest
label_runs f Tagged n label g t s rest e c (grammar.tag is) b room step =
    let same : with_tag g f ≡ labelled n g f = ap (λ (k : ℕ). record (with_tag g f) { count = k }) (c ∙ ap (λ (o : Mode). tally o n) e ∙ sym (ap (λ (o : Mode). tally o (n + 1)) e)) in
    tag_runs f g (t ∷ rest) e is room ∙ ap (λ (k : Found). runs (next None) (state_at k (AfterColon g)) (t ∷ rest)) same
    ∙ run_one _ s t rest (colon_step_is (labelled n g f) g t ∙ step)
label_runs f (Untagged a) n label g t s rest e c grammar.none b room step =
    let is : f.count ≡ n = c ∙ ap (λ (o : Mode). tally o n) e in
    let made : Found × Tag = given (n + 1) (tag_given None a (n + 1)) f in
    let counts : with_count (n + 1) f ≡ with_count (tally f.mode (n + 1)) f = ap (λ (k : ℕ). with_count k f) (sym (ap (λ (o : Mode). tally o (n + 1)) e)) in
    run_one _ s t rest
    (first_step f a t b e room ∙ ap (λ (k : ℕ). colon_next (given (k + 1) (tag_given None a (k + 1)) f).0 (tag_given None a (k + 1)) t) is
    ∙ ap (λ (k : Found). colon_next (with_tag g k) g t) counts ∙ step)

-- the numbers after the tags of these parts
abbrev parts_raised : Bool → Body → issued.Issued → issued.Issued
parts_raised true body is = is
parts_raised false body is = issued.raised_by (map tag_pair (tags_of body [])) is

-- with these parts, after which m parts have begun
abbrev with_parts : ℕ → Body → Found → Found
with_parts m body f = found f.mode (tally f.mode m) f.has_header (parts_raised f.has_header body f.issued) f.blocks (then_parts f.parts body) f.names

no_parts : (f : Found) (n : ℕ) → f.count ≡ tally f.mode n → f ≡ with_parts n done f
no_parts f n e = λ i. record { mode = f.mode; count = e i; has_header = f.has_header; issued = same f.has_header f.issued i; blocks = f.blocks; parts = sym (then_done f.parts) i; names = f.names }
  where
    same : (b : Bool) (is : issued.Issued) → is ≡ parts_raised b done is
    same true is = refl
    same false is = refl

-- one part, and then the others
part_then : (f : Found) (c m : ℕ) (is : issued.Issued) (part rest : Body) → parts_raised f.has_header rest is ≡ parts_raised f.has_header (then_parts part rest) f.issued
    → with_parts m rest (found f.mode c f.has_header is f.blocks (then_parts f.parts part) f.names) ≡ with_parts m (then_parts part rest) f
part_then f c m is part rest e =
    λ i. record { mode = f.mode; count = tally f.mode m; has_header = f.has_header; issued = e i; blocks = f.blocks; parts = then_assoc f.parts part rest i; names = f.names }

action_raises : (h : Bool) (t : Tag) (d : Action) (rest : Body) (is : issued.Issued) → parts_raised h rest (tag_raised h t is) ≡ parts_raised h (action t d rest) is
action_raises true t d rest is = refl
action_raises false t d rest is = refl

branch_raises : (h : Bool) (t : Tag) (e : Expr) (first rest : Body) (is : issued.Issued)
    → parts_raised h rest (parts_raised h first (tag_raised h t is)) ≡ parts_raised h (branch t e first done rest) is
branch_raises true t e first rest is = refl
branch_raises false t e first rest is = sym (tags_raise first (tags_of rest []) (issued.raised t.author t.serial is))

else_raises : (h : Bool) (t : Tag) (e : Expr) (first second rest : Body) (is : issued.Issued)
    → parts_raised h rest (parts_raised h second (parts_raised h first (tag_raised h t is))) ≡ parts_raised h (branch t e first second rest) is
else_raises true t e first second rest is = refl
else_raises false t e first second rest is =
    sym (tags_raise first (tags_of second (tags_of rest [])) (issued.raised t.author t.serial is)
    ∙ tags_raise second (tags_of rest []) (issued.raised_by (map tag_pair (tags_of first [])) (issued.raised t.author t.serial is)))

loop_raises : (h : Bool) (t : Tag) (e : Expr) (body rest : Body) (is : issued.Issued)
    → parts_raised h rest (parts_raised h body (tag_raised h t is)) ≡ parts_raised h (loop t e body rest) is
loop_raises true t e body rest is = refl
loop_raises false t e body rest is = sym (tags_raise body (tags_of rest []) (issued.raised t.author t.serial is))

own : {form : Form} (f : Found) (label : List Token) (g : Tag) (n : ℕ) → form ≡ form_of f.mode → Labels form n label g → Labels (form_of f.mode) n label g
own f label g n e is = subst (λ (x : Form). Labels x n label g) e is

parts_run : {form : Form} {l n m : ℕ} {ts : List Token} {body : Body} (f : Found) → form ≡ form_of f.mode → SpellsParts form l n m ts body → (rest : List Token) → length f.blocks + l ≡ MAX_LEVELS → f.count ≡ tally f.mode n
    → runs (next None) (state_at f AtPart) (ts ++ rest) ≡ runs (next None) (state_at (with_parts m body f) AtPart) rest
parts_run {n = n} f eq grammar.nothing rest deep c = ap (λ g. runs (next None) (state_at g AtPart) rest) (no_parts f n c)
parts_run {n = n} {m = m} f eq (grammar.assignment {t = t} {x = x} {e = e} {label = label} {value = value} {more = more} {rest = body} is v s) rest deep c =
    let g : Found = labelled n t f in
    let room : length f.blocks < MAX_LEVELS = omega (arith, deep) in
    let tail : List Token = (value ++ (Mark Semicolon ∷ more)) ++ rest in
    let k : Found = with_part None t (assigns x e) g in
    ap (runs (next None) (state_at f AtPart)) (append_assoc label (Name x ∷ Mark Becomes ∷ (value ++ (Mark Semicolon ∷ more))) rest)
    ∙ label_runs f f.mode n label t (Name x) (state_at g (AfterTarget t x)) (Mark Becomes ∷ tail) refl c (own f label t n eq is) (a_name x) room refl
    ∙ run_one _ (reading g (Assign t x) start) (Mark Becomes) tail (becomes_step g t x)
    ∙ ap (runs (next None) (reading g (Assign t x) start)) (append_assoc value (Mark Semicolon ∷ more) rest)
    ∙ value_runs value e v g t x (more ++ rest) ∙ parts_run k eq s rest deep refl
    ∙ ap (λ y. runs (next None) (state_at y AtPart) rest) (part_then f g.count m g.issued (action t (assigns x e) done) body (action_raises f.has_header t (assigns x e) body f.issued))
parts_run {n = n} {m = m} f eq (grammar.write {t = t} {e = e} {label = label} {value = value} {more = more} {rest = body} is v s) rest deep c =
    let g : Found = labelled n t f in
    let room : length f.blocks < MAX_LEVELS = omega (arith, deep) in
    let k : Found = with_part None t (writes stream e) g in
    ap (runs (next None) (state_at f AtPart)) (append_assoc label (Word Write ∷ (value ++ (Mark Semicolon ∷ more))) rest)
    ∙ label_runs f f.mode n label t (Word Write) (reading g (Output t) start) ((value ++ (Mark Semicolon ∷ more)) ++ rest) refl c (own f label t n eq is) a_write room refl
    ∙ ap (runs (next None) (reading g (Output t) start)) (append_assoc value (Mark Semicolon ∷ more) rest)
    ∙ write_runs value e v g t (more ++ rest) ∙ parts_run k eq s rest deep refl
    ∙ ap (λ y. runs (next None) (state_at y AtPart) rest) (part_then f g.count m g.issued (action t (writes stream e) done) body (action_raises f.has_header t (writes stream e) body f.issued))
parts_run {n = n} {m = m} f eq (grammar.store {t = t} x {i = i} {e = e} {label = label} {index = index} {value = value} {more = more} {rest = body} name is both s) rest deep c =
    let g : Found = labelled n t f in
    let room : length f.blocks < MAX_LEVELS = omega (arith, deep) in
    let behind : List Token = Mark CloseSquare ∷ Mark Becomes ∷ (value ++ (Mark Semicolon ∷ more)) in
    let k : Found = with_part None t (stores (array_of x) i e) g in
    ap (runs (next None) (state_at f AtPart)) (append_assoc label (Name x ∷ Mark OpenSquare ∷ (index ++ behind)) rest)
    ∙ label_runs f f.mode n label t (Name x) (state_at g (AfterTarget t x)) (Mark OpenSquare ∷ ((index ++ behind) ++ rest)) refl c (own f label t n eq is) (a_name x) room refl
    ∙ run_one _ (state_at g (InIndex t (array_of x) start)) (Mark OpenSquare) ((index ++ behind) ++ rest) (square_step g t x name)
    ∙ ap (runs (next None) (state_at g (InIndex t (array_of x) start)))
    (append_assoc index behind rest ∙ ap (λ y. index ++ (Mark CloseSquare ∷ Mark Becomes ∷ y)) (append_assoc value (Mark Semicolon ∷ more) rest))
    ∙ store_runs index value i e both g t (array_of x) (more ++ rest) ∙ parts_run k eq s rest deep refl
    ∙ ap (λ y. runs (next None) (state_at y AtPart) rest)
    (part_then f g.count m g.issued (action t (stores (array_of x) i e) done) body (action_raises f.has_header t (stores (array_of x) i e) body f.issued))
parts_run {n = n} {m = m} f eq (grammar.conditional {k = c1} {t = t} {e = e} {label = label} {test = test} {first = inner} {more = more} {yes = chosen} {rest = body} is v s u) rest deep c =
    let g : Found = labelled n t f in
    let room : length f.blocks < MAX_LEVELS = omega (arith, deep) in
    let inside : List Token = inner ++ (Word Fi ∷ more) in
    let h : Found = in_then t e g in
    let k : Found = with_parts c1 chosen h in
    let q : Found = found f.mode k.count f.has_header k.issued f.blocks (then_parts f.parts (branch t e chosen done done)) f.names in
    ap (runs (next None) (state_at f AtPart)) (append_assoc label (Word If ∷ (test ++ (Word Then ∷ inside))) rest)
    ∙ label_runs f f.mode n label t (Word If) (reading g (Test t) start) ((test ++ (Word Then ∷ inside)) ++ rest) refl c (own f label t n eq is) a_test room refl
    ∙ ap (runs (next None) (reading g (Test t) start)) (append_assoc test (Word Then ∷ inside) rest)
    ∙ test_runs test e v g t (inside ++ rest) ∙ ap (runs (next None) (state_at h AtPart)) (append_assoc inner (Word Fi ∷ more) rest)
    ∙ parts_run h eq s (Word Fi ∷ (more ++ rest)) (omega (arith, deep)) refl
    ∙ run_one _ (state_at q AtPart) (Word Fi) (more ++ rest) (fi_step f.mode k.count f.has_header k.issued (around t e g) f.blocks chosen f.names)
    ∙ parts_run q eq u rest deep refl
    ∙ ap (λ y. runs (next None) (state_at y AtPart) rest) (part_then f k.count m k.issued (branch t e chosen done done) body (branch_raises f.has_header t e chosen body f.issued))
parts_run {n = n} {m = m} f eq (grammar.conditional_else {k = c1} {j = c2} {t = t} {e = e} {label = label} {test = test} {first = inner} {second = other} {more = more} {yes = chosen} {no = second} {rest = body} is v s w u) rest deep c =
    let g : Found = labelled n t f in
    let room : length f.blocks < MAX_LEVELS = omega (arith, deep) in
    let behind : List Token = other ++ (Word Fi ∷ more) in
    let inside : List Token = inner ++ (Word Else ∷ behind) in
    let h : Found = in_then t e g in
    let k : Found = with_parts c1 chosen h in
    let j : Found = found f.mode k.count f.has_header k.issued (begun.Else (around t e g) chosen ∷ f.blocks) done f.names in
    let q : Found = with_parts c2 second j in
    let p : Found = found f.mode q.count f.has_header q.issued f.blocks (then_parts f.parts (branch t e chosen second done)) f.names in
    ap (runs (next None) (state_at f AtPart)) (append_assoc label (Word If ∷ (test ++ (Word Then ∷ inside))) rest)
    ∙ label_runs f f.mode n label t (Word If) (reading g (Test t) start) ((test ++ (Word Then ∷ inside)) ++ rest) refl c (own f label t n eq is) a_test room refl
    ∙ ap (runs (next None) (reading g (Test t) start)) (append_assoc test (Word Then ∷ inside) rest)
    ∙ test_runs test e v g t (inside ++ rest) ∙ ap (runs (next None) (state_at h AtPart)) (append_assoc inner (Word Else ∷ behind) rest)
    ∙ parts_run h eq s (Word Else ∷ (behind ++ rest)) (omega (arith, deep)) refl
    ∙ run_one _ (state_at j AtPart) (Word Else) (behind ++ rest) (else_step f.mode k.count f.has_header k.issued (around t e g) f.blocks chosen f.names)
    ∙ ap (runs (next None) (state_at j AtPart)) (append_assoc other (Word Fi ∷ more) rest)
    ∙ parts_run j eq w (Word Fi ∷ (more ++ rest)) (omega (arith, deep)) refl
    ∙ run_one _ (state_at p AtPart) (Word Fi) (more ++ rest) (last_fi_step f.mode q.count f.has_header q.issued (around t e g) chosen f.blocks second f.names)
    ∙ parts_run p eq u rest deep refl
    ∙ ap (λ y. runs (next None) (state_at y AtPart) rest) (part_then f q.count m q.issued (branch t e chosen second done) body (else_raises f.has_header t e chosen second body f.issued))
parts_run {n = n} {m = m} f eq (grammar.while_loop {k = c1} {t = t} {e = e} {label = label} {test = test} {inner = inner} {more = more} {body = chosen} {rest = body} is v s u) rest deep c =
    let g : Found = labelled n t f in
    let room : length f.blocks < MAX_LEVELS = omega (arith, deep) in
    let inside : List Token = inner ++ (Word Od ∷ more) in
    let h : Found = in_loop t e g in
    let k : Found = with_parts c1 chosen h in
    let q : Found = found f.mode k.count f.has_header k.issued f.blocks (then_parts f.parts (loop t e chosen done)) f.names in
    ap (runs (next None) (state_at f AtPart)) (append_assoc label (Word While ∷ (test ++ (Word Do ∷ inside))) rest)
    ∙ label_runs f f.mode n label t (Word While) (reading g (Guard t) start) ((test ++ (Word Do ∷ inside)) ++ rest) refl c (own f label t n eq is) a_guard room refl
    ∙ ap (runs (next None) (reading g (Guard t) start)) (append_assoc test (Word Do ∷ inside) rest)
    ∙ guard_runs test e v g t (inside ++ rest) ∙ ap (runs (next None) (state_at h AtPart)) (append_assoc inner (Word Od ∷ more) rest)
    ∙ parts_run h eq s (Word Od ∷ (more ++ rest)) (omega (arith, deep)) refl
    ∙ run_one _ (state_at q AtPart) (Word Od) (more ++ rest) (od_step f.mode k.count f.has_header k.issued (around t e g) f.blocks chosen f.names)
    ∙ parts_run q eq u rest deep refl
    ∙ ap (λ y. runs (next None) (state_at y AtPart) rest) (part_then f k.count m k.issued (loop t e chosen done) body (loop_raises f.has_header t e chosen body f.issued))

-- parts may begin after `program`, and after a header
abbrev Alike : Place → Place → List Token → Type 0
Alike p q ts = (f : Found) → runs (next None) (state_at f p) ts ≡ runs (next None) (state_at f q) ts

same_first : (p q : Place) (t : Token) (ts : List Token) → ((f : Found) → next None (state_at f p) t ≡ next None (state_at f q) t) → Alike p q (t ∷ ts)
same_first p q t ts e f = ap (λ (o : Option State). and_then o (λ n. runs (next None) n ts)) (e f)

end_alike : (f : Found) → next None (state_at f AfterProgram) (Word End) ≡ next None (state_at f AtPart) (Word End)
unfolding next
end_alike f = refl

number_alike : (a : ℕ) (f : Found) → next None (state_at f AfterProgram) (Number a) ≡ next None (state_at f AtPart) (Number a)
unfolding next
number_alike a f = refl

begins_alike : (t : Token) → Begins t → (f : Found) → next None (state_at f AfterProgram) t ≡ next None (state_at f AtPart) t
unfolding next
begins_alike t (a_name x) f = refl
begins_alike t a_test f = refl
begins_alike t a_guard f = refl
begins_alike t a_write f = refl

label_alike : {m : Form} {n : ℕ} {label : List Token} {g : Tag} (t : Token) (ts : List Token) → Labels m n label g → Begins t → Alike AfterProgram AtPart (label ++ (t ∷ ts))
label_alike {g = g} t ts (grammar.tag is) b = same_first AfterProgram AtPart (Number g.author) (Mark Dot ∷ Number g.serial ∷ Mark Colon ∷ t ∷ ts) (number_alike g.author)
label_alike t ts grammar.none b = same_first AfterProgram AtPart t ts (begins_alike t b)

program_parts : {m : Form} {l n k : ℕ} {ts : List Token} {body : Body} → SpellsParts m l n k ts body → (rest : List Token) → Alike AfterProgram AtPart (ts ++ (Word End ∷ rest))
program_parts grammar.nothing rest = same_first AfterProgram AtPart (Word End) rest end_alike
program_parts (grammar.assignment {x = x} {label = label} {value = value} {more = more} is v s) rest =
    rw append_assoc (label_alike (Name x) ((Mark Becomes ∷ (value ++ (Mark Semicolon ∷ more))) ++ (Word End ∷ rest)) is (a_name x))
program_parts (grammar.write {label = label} {value = value} {more = more} is v s) rest =
    rw append_assoc (label_alike (Word Write) ((value ++ (Mark Semicolon ∷ more)) ++ (Word End ∷ rest)) is a_write)
program_parts (grammar.store x {label = label} {index = index} {value = value} {more = more} name is both s) rest =
    rw append_assoc
    (label_alike (Name x) ((Mark OpenSquare ∷ (index ++ (Mark CloseSquare ∷ Mark Becomes ∷ (value ++ (Mark Semicolon ∷ more))))) ++ (Word End ∷ rest)) is (a_name x))
program_parts (grammar.conditional {label = label} {test = test} {first = inner} {more = more} is v s u) rest =
    rw append_assoc (label_alike (Word If) ((test ++ (Word Then ∷ (inner ++ (Word Fi ∷ more)))) ++ (Word End ∷ rest)) is a_test)
program_parts (grammar.conditional_else {label = label} {test = test} {first = inner} {second = other} {more = more} is v s w u) rest =
    rw append_assoc (label_alike (Word If) ((test ++ (Word Then ∷ (inner ++ (Word Else ∷ (other ++ (Word Fi ∷ more)))))) ++ (Word End ∷ rest)) is a_test)
program_parts (grammar.while_loop {label = label} {test = test} {inner = inner} {more = more} is v s u) rest =
    rw append_assoc (label_alike (Word While) ((test ++ (Word Do ∷ (inner ++ (Word Od ∷ more)))) ++ (Word End ∷ rest)) is a_guard)

header_parts : {l n m : ℕ} {ts : List Token} {body : Body} → SpellsParts grammar.tagged l n m ts body → (f : Found) (rest : List Token)
    → runs (next None) (state_at f AfterPair) (ts ++ (Word End ∷ rest)) ≡ runs (next None) (state_at f AtPart) (ts ++ (Word End ∷ rest))
unfolding next
header_parts grammar.nothing f rest = refl
header_parts (grammar.assignment (grammar.tag is) v s) f rest = refl
header_parts (grammar.write (grammar.tag is) v s) f rest = refl
header_parts (grammar.store x name (grammar.tag is) both s) f rest = refl
header_parts (grammar.conditional (grammar.tag is) v s u) f rest = refl
header_parts (grammar.conditional_else (grammar.tag is) v s w u) f rest = refl
header_parts (grammar.while_loop (grammar.tag is) v s u) f rest = refl

-- ---- the end

abbrev with_names : List (List ℕ) → Found → Found
with_names xs f = record f { names = f.names ++ xs }

close_step : (f : Found) → next None (state_at f AfterOpen) (Mark Close) ≡ Some (state_at f AtEnd)
unfolding next
close_step f = refl

-- the places at which a variable of `end` may begin
record IsAtNames (p : Place) : Type 0 where
  name : (f : Found) (x : List ℕ) → next None (state_at f p) (Name x) ≡ Some (state_at f (AfterName x))
  out : (f : Found) → next None (state_at f p) (Word Out) ≡ Some (state_at (with_name stream f) AfterFinal)

first_names : IsAtNames AfterOpen
unfolding next
first_names = record { name = λ f x. refl; out = λ f. refl }

next_names : IsAtNames AfterComma
unfolding next
next_names = record { name = λ f x. refl; out = λ f. refl }

array_step : (f : Found) (x : List ℕ) → IsName x → next None (state_at f (AfterName x)) (Mark OpenSquare) ≡ Some (state_at f (AfterNameOpen (array_of x)))
unfolding next
array_step f x name = let plain : is_name x ≡ true = name in rw plain refl

array_ends : (f : Found) (a : List ℕ) → next None (state_at f (AfterNameOpen a)) (Mark CloseSquare) ≡ Some (state_at (with_name a f) AfterFinal)
unfolding next
array_ends f a = refl

-- a sign that may stand behind a variable of `end`, and the place to which it leads
data Follows : Token → Place → Type 0 where
  a_comma : Follows (Mark Comma) AfterComma
  a_close : Follows (Mark Close) AtEnd

name_step : (f : Found) (x : List ℕ) (t : Token) (q : Place) → Follows t q → next None (state_at f (AfterName x)) t ≡ Some (state_at (with_name x f) q)
unfolding next
name_step f x t q a_comma = refl
name_step f x t q a_close = refl

final_step : (f : Found) (t : Token) (q : Place) → Follows t q → next None (state_at f AfterFinal) t ≡ Some (state_at f q)
unfolding next
final_step f t q a_comma = refl
final_step f t q a_close = refl

-- a variable and the sign behind it
final_runs : {ts : List Token} {x : List ℕ} → SpellsFinal ts x → (p : Place) → IsAtNames p → (f : Found) (t : Token) (q : Place) → Follows t q → (rest : List Token)
    → runs (next None) (state_at f p) (ts ++ (t ∷ rest)) ≡ runs (next None) (state_at (with_name x f) q) rest
final_runs (grammar.plain {x = x}) p at f t q is rest =
    run_one _ (state_at f (AfterName x)) (Name x) (t ∷ rest) (at.name f x) ∙ run_one _ (state_at (with_name x f) q) t rest (name_step f x t q is)
final_runs grammar.out p at f t q is rest =
    let g : Found = with_name stream f in
    run_one _ (state_at g AfterFinal) (Word Out) (t ∷ rest) (at.out f) ∙ run_one _ (state_at g q) t rest (final_step g t q is)
final_runs (grammar.array {x = x} name) p at f t q is rest =
    let g : Found = with_name (array_of x) f in
    run_one _ (state_at f (AfterName x)) (Name x) (Mark OpenSquare ∷ Mark CloseSquare ∷ t ∷ rest) (at.name f x)
    ∙ run_one _ (state_at f (AfterNameOpen (array_of x))) (Mark OpenSquare) (Mark CloseSquare ∷ t ∷ rest) (array_step f x name)
    ∙ run_one _ (state_at g AfterFinal) (Mark CloseSquare) (t ∷ rest) (array_ends f (array_of x)) ∙ run_one _ (state_at g q) t rest (final_step g t q is)

names_from : {ts : List Token} {y : List ℕ} {ys : List (List ℕ)} → SpellsNames ts (y ∷ ys) → (p : Place) → IsAtNames p → (f : Found)
    → runs (next None) (state_at f p) (ts ++ (Mark Close ∷ [])) ≡ Some (state_at (with_names (y ∷ ys) f) AtEnd)
names_from (grammar.one is) p at f = final_runs is p at f (Mark Close) AtEnd a_close []
names_from (grammar.more {first = first} {ts = ts} {x = x} {y = z} {xs = xs} is s) p at f =
    let g : Found = with_name x f in
    ap (runs (next None) (state_at f p)) (append_assoc first (Mark Comma ∷ ts) (Mark Close ∷ []))
    ∙ final_runs is p at f (Mark Comma) AfterComma a_comma (ts ++ (Mark Close ∷ []))
    ∙ names_from s AfterComma next_names g ∙ ap (λ ns. Some (state_at (record f { names = ns }) AtEnd)) (append_assoc f.names (x ∷ []) (z ∷ xs))

names_run : {ts : List Token} {xs : List (List ℕ)} → SpellsNames ts xs → (f : Found) → runs (next None) (state_at f AfterOpen) (ts ++ (Mark Close ∷ [])) ≡ Some (state_at (with_names xs f) AtEnd)
names_run grammar.none f =
    run_one _ (state_at f AtEnd) (Mark Close) [] (close_step f) ∙ ap (λ ns. Some (state_at (record f { names = ns }) AtEnd)) (sym (append-nil f.names))
names_run (grammar.one is) f = names_from (grammar.one is) AfterOpen first_names f
names_run (grammar.more is s) f = names_from (grammar.more is s) AfterOpen first_names f

-- ---- programs

end_step : (f : Found) → f.blocks ≡ [] → next None (state_at f AtPart) (Word End) ≡ Some (state_at f AfterEnd)
unfolding next
end_step f e = rw e refl

open_step : (f : Found) → next None (state_at f AfterEnd) (Mark Open) ≡ Some (state_at f AfterOpen)
unfolding next
open_step f = refl

program_step : (m : Mode) → next None (initially m) (Word Program) ≡ Some (state_at (nothing_found m) AfterProgram)
unfolding next
program_step m = refl

issued_step : next None (state_at (nothing_found Tagged) AfterProgram) (Word Issued) ≡ Some (state_at (with_header (nothing_found Tagged)) BeforePair)
unfolding next
issued_step = refl

-- from the first part on
body_runs : {form : Form} {count : ℕ} {parts names : List Token} {body : Body} {finals : List (List ℕ)} (f : Found) → form ≡ form_of f.mode → SpellsParts form MAX_LEVELS 0 count parts body → SpellsNames names finals → f.blocks ≡ [] → f.count ≡ tally f.mode 0
    → runs (next None) (state_at f AtPart) (parts ++ (Word End ∷ Mark Open ∷ (names ++ (Mark Close ∷ [])))) ≡ Some (state_at (with_names finals (with_parts count body f)) AtEnd)
body_runs {count = count} {names = names} {body = body} f eq s n top c =
    let g : Found = with_parts count body f in
    parts_run f eq s (Word End ∷ Mark Open ∷ (names ++ (Mark Close ∷ []))) (ap (λ (bs : List Begun). length bs + MAX_LEVELS) top) c
    ∙ run_one _ (state_at g AfterEnd) (Word End) (Mark Open ∷ (names ++ (Mark Close ∷ []))) (end_step g top)
    ∙ run_one _ (state_at g AfterOpen) (Mark Open) (names ++ (Mark Close ∷ [])) (open_step g) ∙ names_run n g

abbrev at_end : Mode → ℕ → Bool → Tree → State
at_end m count header t = state_at (found m (tally m count) header t.issued [] t.body t.finals) AtEnd

no_count : (m : Mode) → 0 ≡ tally m 0
no_count Tagged = refl
no_count (Untagged a) = refl

program_runs : {form : Form} (m : Mode) → form ≡ form_of m → {count : ℕ} {header parts names : List Token} {pairs : Option (List (ℕ × ℕ))} {body : Body} {finals : List (List ℕ)}
    → SpellsHeader form header pairs → SpellsParts form MAX_LEVELS 0 count parts body → SpellsNames names finals
    → runs (next None) (initially m) (Word Program ∷ (header ++ (parts ++ (Word End ∷ Mark Open ∷ (names ++ (Mark Close ∷ []))))))
    ≡ Some (at_end m count (is_some pairs) (record { issued = issued_of pairs body; body = body; finals = finals }))
program_runs m eq {parts = parts} {names = names} grammar.none s n =
    run_one (initially m) (state_at (nothing_found m) AfterProgram) (Word Program) (parts ++ (Word End ∷ Mark Open ∷ (names ++ (Mark Close ∷ [])))) (program_step m)
    ∙ program_parts s (Mark Open ∷ (names ++ (Mark Close ∷ []))) (nothing_found m) ∙ body_runs (nothing_found m) eq s n refl (no_count m)
program_runs Tagged eq {parts = parts} {names = names} (grammar.pairs {ts = ts} {ps = ps} h) s n =
    let rest : List Token = parts ++ (Word End ∷ Mark Open ∷ (names ++ (Mark Close ∷ []))) in
    let f : Found = with_header (nothing_found Tagged) in
    run_one (initially Tagged) (state_at (nothing_found Tagged) AfterProgram) (Word Program) (Word Issued ∷ (ts ++ rest)) (program_step Tagged)
    ∙ run_one _ (state_at f BeforePair) (Word Issued) (ts ++ rest) issued_step ∙ pairs_run h f rest
    ∙ header_parts s (with_pairs ps f) (Mark Open ∷ (names ++ (Mark Close ∷ []))) ∙ body_runs (with_pairs ps f) eq s n refl refl
program_runs (Untagged a) eq (grammar.pairs h) s n = absurd cc

-- where the tokens of a tree lead
pub spelled_state : (m : Mode) (ts : List Token) (t : Tree) → SpellsProgram (form_of m) ts t → State
spelled_state m ts t h = at_end m h.count (is_some h.pairs) t

pub spelled_runs : (m : Mode) (ts : List Token) (t : Tree) (h : SpellsProgram (form_of m) ts t) → runs (next None) (initially m) ts ≡ Some (spelled_state m ts t h)
unfolding spelled_state
spelled_runs m ts t h =
    ap (runs (next None) (initially m)) h.tokens_are ∙ program_runs m refl h.header_is h.parts_are h.names_are
    ∙ ap (λ is. Some (at_end m h.count (is_some h.pairs) (record { issued = is; body = t.body; finals = t.finals }))) (sym h.issued_is)

pub spelled_accepted : (m : Mode) (ts : List Token) (t : Tree) (h : SpellsProgram (form_of m) ts t) → accepted (spelled_state m ts t h) ≡ Some t
unfolding spelled_state
spelled_accepted m ts t h = refl

-- there the program can end
pub spelled_ends : (m : Mode) (ts : List Token) (t : Tree) (h : SpellsProgram (form_of m) ts t) → may_end (spelled_state m ts t h) ≡ true
unfolding spelled_state
spelled_ends m ts t h = refl
