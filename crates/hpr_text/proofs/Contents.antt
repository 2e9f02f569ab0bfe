-- What bytes are the text of a content, by where they lead the machine of contents.
use Rattle.std.proofs.Common.{◌≡◌, ℕ, ◌+◌, ◌-◌, ◌≤◌, false, true, List, [], ◌∷◌, ◌++◌, length, length-drop, take, drop, get_or, slice_range, slice_index, ◌<◌, Option, Some, None, refl, sym, ap, subst, ◌∙◌, append_assoc, arith}
use Rattle.std.proofs.lemmas.List.{append-nil, take_all, get_or-drop}
use Rattle.hpr_terms.specs.declared.expr.Expr.{Expr}
use Rattle.hpr_terms.specs.declared.keyword.Keyword.TheVariants as keyword
use Rattle.hpr_terms.specs.declared.token.Sign.TheVariants.{Becomes, OpenSquare, CloseSquare, Semicolon}
use Rattle.hpr_terms.specs.declared.token.Token.{Token}
use Rattle.hpr_terms.specs.declared.token.Token.TheVariants.{Word, Name, Mark}
use Rattle.hpr_terms.specs.Tokens.{Text}
use Rattle.hpr_terms.proofs.Facts.{some_inj}
use Rattle.hpr_syntax.specs.declared.rows.Content.{Content}
use Rattle.hpr_terms.specs.Names.{IsName, is_name, array_of}
use Rattle.hpr_terms.specs.Term.{operators}
use Rattle.hpr_terms.specs.TermOf.{term_of}
use Rattle.hpr_syntax.specs.Grammar.{SpellsStore}
use Rattle.hpr_scan.specs.Place.{IsPlace, BeginsWith, Accepts}
use Rattle.hpr_scan.specs.Steps.{and_then, runs, IsReading}
use Rattle.hpr_scan.proofs.Place.{same_place}
use Rattle.hpr_expressions.specs.declared.expression.Reading.{Reading}
use Rattle.std.proofs.lemmas.Bool.{false≢true}
use Rattle.hpr_scan.proofs.Words.{none_some}
use Rattle.hpr_text.specs.declared.content.Aim.{Aim}
use Rattle.hpr_text.specs.declared.content.Aim.TheVariants.{Assign, Test, Guard, Output, Store}
use Rattle.hpr_text.specs.declared.content.ContentState.{ContentState}
use Rattle.hpr_text.specs.declared.content.ContentState.TheVariants.{Start, AfterTarget, InIndex, AfterIndex, InExpression, Ended}
use Rattle.hpr_expressions.specs.Expression.{start, start_after, counted_in, read, ended, can_end}
use Rattle.hpr_expressions.specs.Read.{SpellsAfter}
use Rattle.hpr_text.specs.Contents as contents
use Rattle.hpr_text.specs.Contents.{SpellsContent, IsContentText, HasContent, IsPlaceFrom, OneContent}
use Rattle.hpr_text.specs.ContentMachine.{content_of, content_ends, content_goes_on, content_index_ends, in_index_next, content_next, content_may_end, content_read}
use Rattle.hpr_text.specs.ContentLaws.{content_goes_read, content_goes_in_index, content_is_token_machine}
use Rattle.hpr_text.proofs.Going.{either_way}
use Rattle.hpr_text.proofs.Once.{text_once}
use Rattle.hpr_text.proofs.LastSign.{last_is_sign}
use Rattle.hpr_scan.proofs.SoundText.{guard_is}
use Rattle.hpr_expressions.proofs.SoundExpression.{ReadingIs, start_is, read_is, ended_is, count_is}
use Rattle.hpr_expressions.proofs.WholeExpression.{expression_read_after}
use Rattle.hpr_expressions.proofs.Spelled.{read_as_spelled_after}

-- ---- what was read, said of each state

-- a name and `[`, an index, and the tokens behind it; a is the array of the name
pub record IndexIs (a : List ℕ) (i : Expr) (behind : List Token) (ts : List Token) : Type 0 where
  pub name : List ℕ
  pub index : List Token
  pub name_is : IsName name
  pub array_is : a ≡ array_of name
  pub index_is : SpellsAfter 0 index i
  pub tokens : ts ≡ Name name ∷ Mark OpenSquare ∷ (index ++ behind)

-- the tokens before the expression, and how many operators count together with its own
abbrev pub Begins : Aim → List Token → Type 0
Begins (Assign x) ts = ts ≡ Name x ∷ Mark Becomes ∷ []
Begins Test ts = ts ≡ Word keyword.If ∷ []
Begins Guard ts = ts ≡ Word keyword.While ∷ []
Begins Output ts = ts ≡ Word keyword.Write ∷ []
Begins (Store a i) ts = IndexIs a i (Mark CloseSquare ∷ Mark Becomes ∷ []) ts

abbrev pub operators_before : Aim → ℕ
operators_before (Store a i) = operators (term_of i)
operators_before _ = 0

abbrev pub ContentIs : ContentState → List Token → Type 0
ContentIs Start ts = ts ≡ []
ContentIs (AfterTarget x) ts = ts ≡ Name x ∷ []
ContentIs (InIndex a r) ts = (x : List ℕ) × (e : List Token) × IsName x × (a ≡ array_of x) × ReadingIs 0 r e × (ts ≡ Name x ∷ Mark OpenSquare ∷ e)
ContentIs (AfterIndex a i k) ts = (k ≡ operators (term_of i)) × IndexIs a i (Mark CloseSquare ∷ []) ts
ContentIs (InExpression aim r) ts = (front : List Token) × (e : List Token) × Begins aim front × ReadingIs (operators_before aim) r e × (ts ≡ front ++ e)
ContentIs (Ended c) ts = (e : List Token) × SpellsContent e c × (ts ≡ e ++ (Mark Semicolon ∷ []))

to_content : (m n : ContentState) (ts : List Token) → Some m ≡ Some n → ContentIs m ts → ContentIs n ts
to_content m n ts e h = subst (λ (s : ContentState). ContentIs s ts) (some_inj m n e) h

stored : (a : List ℕ) (i e : Expr) (front ts : List Token) → IndexIs a i (Mark CloseSquare ∷ Mark Becomes ∷ []) front → SpellsAfter (operators (term_of i)) ts e → SpellsContent (front ++ ts) (content_of (Store a i) e)
stored a i e front ts h s =
    let both : SpellsStore h.index ts i e = (h.index_is.0, s.0, s.1) in
    subst (λ (x : List ℕ). SpellsContent (front ++ ts) (content_of (Store x i) e)) (sym h.array_is)
    (rw (h.tokens, append_assoc) (contents.store h.name h.name_is both))

spelled : (aim : Aim) (e : Expr) (front ts : List Token) → Begins aim front → SpellsAfter (operators_before aim) ts e → SpellsContent (front ++ ts) (content_of aim e)
spelled (Assign x) e front ts h s = rw h (contents.assignment (s.0, omega (arith, s.1)))
spelled Test e front ts h s = rw h (contents.conditional (s.0, omega (arith, s.1)))
spelled Guard e front ts h s = rw h (contents.while_loop (s.0, omega (arith, s.1)))
spelled Output e front ts h s = rw h (contents.write (s.0, omega (arith, s.1)))
spelled (Store a i) e front ts h s = stored a i e front ts h s

goes_on_is : (aim : Aim) (r : Reading) (t : Token) (o : Option Reading) (n : ContentState) (ts : List Token) → ContentIs (InExpression aim r) ts → read r t ≡ o → content_goes_on (InExpression aim) o ≡ Some n
    → ContentIs n (ts ++ (t ∷ []))
goes_on_is aim r t None n ts h q e = absurd (none_some e)
goes_on_is aim r t (Some m) n ts h q e =
    to_content (InExpression aim m) n (ts ++ (t ∷ [])) e
    (h.0, h.1 ++ (t ∷ []), h.2, read_is (operators_before aim) r t m h.1 h.3 q, ap (λ x. x ++ (t ∷ [])) h.4 ∙ append_assoc h.0 h.1 (t ∷ []))

ends_is : (aim : Aim) (r : Reading) (o : Option Expr) (n : ContentState) (ts : List Token) → ContentIs (InExpression aim r) ts → ended r ≡ o → content_ends aim o ≡ Some n → ContentIs n (ts ++ (Mark Semicolon ∷ []))
ends_is aim r None n ts h q e = absurd (none_some e)
ends_is aim r (Some v) n ts h q e =
    to_content (Ended (content_of aim v)) n (ts ++ (Mark Semicolon ∷ [])) e
    (h.0 ++ h.1, spelled aim v h.0 h.1 h.2 (ended_is (operators_before aim) r v h.1 h.3 q), ap (λ x. x ++ (Mark Semicolon ∷ [])) h.4)

index_goes_is : (a : List ℕ) (r : Reading) (t : Token) (o : Option Reading) (n : ContentState) (ts : List Token) → ContentIs (InIndex a r) ts → read r t ≡ o → content_goes_on (InIndex a) o ≡ Some n
    → ContentIs n (ts ++ (t ∷ []))
index_goes_is a r t None n ts h q e = absurd (none_some e)
index_goes_is a r t (Some m) n ts h q e =
    to_content (InIndex a m) n (ts ++ (t ∷ [])) e (h.0, h.1 ++ (t ∷ []), h.2, h.3, read_is 0 r t m h.1 h.4 q, ap (λ x. x ++ (t ∷ [])) h.5)

index_ends_is : (a : List ℕ) (r : Reading) (o : Option Expr) (n : ContentState) (ts : List Token) → ContentIs (InIndex a r) ts → ended r ≡ o → content_index_ends a (counted_in r) o ≡ Some n
    → ContentIs n (ts ++ (Mark CloseSquare ∷ []))
index_ends_is a r None n ts h q e = absurd (none_some e)
index_ends_is a r (Some i) n ts h q e =
    to_content (AfterIndex a i (counted_in r)) n (ts ++ (Mark CloseSquare ∷ [])) e (
      omega (arith, count_is 0 r i h.1 h.4 q),
      record { name = h.0; index = h.1; name_is = h.2; array_is = h.3; index_is = ended_is 0 r i h.1 h.4 q; tokens = ap (λ x. x ++ (Mark CloseSquare ∷ [])) h.5 },
    )

index_is : (a : List ℕ) (r : Reading) (t : Token) (n : ContentState) (ts : List Token) → ContentIs (InIndex a r) ts → in_index_next a r t ≡ Some n → ContentIs n (ts ++ (t ∷ []))
index_is a r (Mark CloseSquare) n ts h e =
    either_way (can_end r) (content_index_ends a (counted_in r) (ended r)) (content_goes_on (InIndex a) (read r (Mark CloseSquare))) n
    (index_ends_is a r (ended r) n ts h refl) (index_goes_is a r (Mark CloseSquare) (read r (Mark CloseSquare)) n ts h refl) e
index_is a r t n ts h e = index_goes_is a r t (read r t) n ts h refl e

begin_is : ReadingIs 0 start []
begin_is = start_is 0 (omega arith)

-- the number of a store follows its index
number_begins : (a : List ℕ) (i : Expr) (k : ℕ) (ts : List Token) → ContentIs (AfterIndex a i k) ts → ContentIs (InExpression (Store a i) (start_after k)) (ts ++ (Mark Becomes ∷ []))
number_begins a i k ts h =
    let s = h.1 in (
      ts ++ (Mark Becomes ∷ []),
      [],
      record {
        name = s.name;
        index = s.index;
        name_is = s.name_is;
        array_is = s.array_is;
        index_is = s.index_is;
        tokens = rw (s.tokens, append_assoc) refl;
      },
      subst (λ (j : ℕ). ReadingIs (operators (term_of i)) (start_after j) []) (sym h.0) (start_is (operators (term_of i)) (omega (arith, s.index_is.1))),
      sym (append-nil (ts ++ (Mark Becomes ∷ []))),
    )

pub content_step : (s : ContentState) (t : Token) (n : ContentState) (ts : List Token) → ContentIs s ts → content_next s t ≡ Some n → ContentIs n (ts ++ (t ∷ []))
unfolding content_next
content_step Start (Name x) n ts h e = to_content (AfterTarget x) n (ts ++ (Name x ∷ [])) e (rw h refl)
content_step Start (Word keyword.If) n ts h e = to_content (InExpression Test start) n (ts ++ (Word keyword.If ∷ [])) e (Word keyword.If ∷ [], [], refl, begin_is, rw h refl)
content_step Start (Word keyword.While) n ts h e = to_content (InExpression Guard start) n (ts ++ (Word keyword.While ∷ [])) e (Word keyword.While ∷ [], [], refl, begin_is, rw h refl)
content_step Start (Word keyword.Write) n ts h e = to_content (InExpression Output start) n (ts ++ (Word keyword.Write ∷ [])) e (Word keyword.Write ∷ [], [], refl, begin_is, rw h refl)
content_step Start t n ts h e = absurd (none_some e)
content_step (AfterTarget x) (Mark Becomes) n ts h e =
    to_content (InExpression (Assign x) start) n (ts ++ (Mark Becomes ∷ [])) e (Name x ∷ Mark Becomes ∷ [], [], refl, begin_is, rw h refl)
content_step (AfterTarget x) (Mark OpenSquare) n ts h e =
    let q = guard_is (is_name x) (InIndex (array_of x) start) n e in
    to_content (InIndex (array_of x) start) n (ts ++ (Mark OpenSquare ∷ [])) (ap (λ s. Some s) q.1) (x, [], q.0, refl, begin_is, rw h refl)
content_step (AfterTarget x) t n ts h e = absurd (none_some e)
content_step (InIndex a r) t n ts h e = index_is a r t n ts h e
content_step (AfterIndex a i k) (Mark Becomes) n ts h e = to_content (InExpression (Store a i) (start_after k)) n (ts ++ (Mark Becomes ∷ [])) e (number_begins a i k ts h)
content_step (AfterIndex a i k) t n ts h e = absurd (none_some e)
content_step (InExpression aim r) (Mark Semicolon) n ts h e = ends_is aim r (ended r) n ts h refl e
content_step (InExpression aim r) t n ts h e = goes_on_is aim r t (read r t) n ts h refl e
content_step (Ended c) t n ts h e = absurd (none_some e)

content_at : (s : ContentState) (t : Token) (past ts : List Token) (o : Option ContentState) (n : ContentState) → ContentIs s past → content_next s t ≡ o → and_then o (λ m. runs content_next m ts) ≡ Some n
    → ((m : ContentState) → ContentIs m (past ++ (t ∷ [])) → runs content_next m ts ≡ Some n → ContentIs n ((past ++ (t ∷ [])) ++ ts)) → ContentIs n (past ++ (t ∷ ts))
content_at s t past ts None n h e q go = absurd (none_some q)
content_at s t past ts (Some m) n h e q go = rw append_assoc at (go m (content_step s t m past h e) q)

pub content_is : (s : ContentState) (past ts : List Token) (n : ContentState) → ContentIs s past → runs content_next s ts ≡ Some n → ContentIs n (past ++ ts)
content_is s past [] n h e = rw append-nil (to_content s n past e h)
content_is s past (t ∷ ts) n h e = content_at s t past ts (content_next s t) n h refl e (λ m k q. content_is m (past ++ (t ∷ [])) ts n k q)

-- ---- what is spelled is read

end_step : (aim : Aim) (r : Reading) (v : Expr) → ended r ≡ Some v → content_next (InExpression aim r) (Mark Semicolon) ≡ Some (Ended (content_of aim v))
unfolding content_next
end_step aim r v e = ap (content_ends aim) e

pub run_one : (s n : ContentState) (t : Token) (ts : List Token) → content_next s t ≡ Some n → runs content_next s (t ∷ ts) ≡ runs content_next n ts
run_one s n t ts e = ap (λ (o : Option ContentState). and_then o (λ m. runs content_next m ts)) e

-- where a token leads a reading, it leads the machine of contents in this state
abbrev GoesOn : (Reading → ContentState) → Type 0
GoesOn state = (r n : Reading) (t : Token) → read r t ≡ Some n → content_next (state r) t ≡ Some (state n)

reads_at : (state : Reading → ContentState) → GoesOn state → (r n : Reading) (t : Token) (ts rest : List Token) (o : Option Reading) → read r t ≡ o → and_then o (λ m. runs read m ts) ≡ Some n
    → ((m : Reading) → runs read m ts ≡ Some n → runs content_next (state m) (ts ++ rest) ≡ runs content_next (state n) rest) → runs content_next (state r) (t ∷ (ts ++ rest)) ≡ runs content_next (state n) rest
reads_at state on r n t ts rest None e q go = absurd (none_some q)
reads_at state on r n t ts rest (Some m) e q go = run_one _ (state m) t (ts ++ rest) (on r m t e) ∙ go m q

-- so do many tokens
lift : (state : Reading → ContentState) → GoesOn state → (r n : Reading) (ts rest : List Token) → runs read r ts ≡ Some n → runs content_next (state r) (ts ++ rest) ≡ runs content_next (state n) rest
lift state on r n [] rest e = ap (λ (m : Reading). runs content_next (state m) rest) (some_inj _ _ e)
lift state on r n (t ∷ ts) rest e = reads_at state on r n t ts rest (read r t) refl e (λ m q. lift state on m n ts rest q)

inside_runs : (aim : Aim) (k : ℕ) (ts : List Token) (e : Expr) → SpellsAfter k ts e → runs content_next (InExpression aim (start_after k)) (ts ++ (Mark Semicolon ∷ [])) ≡ Some (Ended (content_of aim e))
inside_runs aim k ts e s =
    let n = expression_read_after k ts e s in
    lift (InExpression aim) (content_goes_read aim) (start_after k) n.0 ts (Mark Semicolon ∷ []) n.1 ∙ run_one _ (Ended (content_of aim e)) (Mark Semicolon) [] (end_step aim n.0 e n.2)

square_step : (x : List ℕ) → IsName x → content_next (AfterTarget x) (Mark OpenSquare) ≡ Some (InIndex (array_of x) start)
unfolding content_next
square_step x name = let plain : is_name x ≡ true = name in rw plain refl

index_step : (a : List ℕ) (r : Reading) (i : Expr) → ended r ≡ Some i → content_next (InIndex a r) (Mark CloseSquare) ≡ Some (AfterIndex a i (counted_in r))
unfolding content_next
index_step a r i e = rw e refl

becomes_step : (a : List ℕ) (i : Expr) (k : ℕ) → content_next (AfterIndex a i k) (Mark Becomes) ≡ Some (InExpression (Store a i) (start_after k))
unfolding content_next
becomes_step a i k = refl

-- the two expressions of a store, with the tokens between them
store_runs : (a : List ℕ) (index value : List Token) (i e : Expr) → SpellsStore index value i e
    → runs content_next (InIndex a start) (index ++ (Mark CloseSquare ∷ Mark Becomes ∷ (value ++ (Mark Semicolon ∷ [])))) ≡ Some (Ended (content_of (Store a i) e))
store_runs a index value i e both =
    let tail : List Token = value ++ (Mark Semicolon ∷ []) in
    let n = expression_read_after 0 index i (both.0, omega (arith, both.2)) in
    let k : ℕ = counted_in n.0 in
    let count : k ≡ 0 + operators (term_of i) = read_as_spelled_after.counts 0 index i n.0 (omega arith) n.1 n.2 in
    lift (InIndex a) (content_goes_in_index a) start n.0 index (Mark CloseSquare ∷ Mark Becomes ∷ tail) n.1
    ∙ run_one _ (AfterIndex a i k) (Mark CloseSquare) (Mark Becomes ∷ tail) (index_step a n.0 i n.2)
    ∙ run_one _ (InExpression (Store a i) (start_after k)) (Mark Becomes) tail (becomes_step a i k) ∙ inside_runs (Store a i) k value e (both.1, omega (arith, both.2, count))

pub content_runs : (ts : List Token) (c : Content) → SpellsContent ts c → runs content_next Start (ts ++ (Mark Semicolon ∷ [])) ≡ Some (Ended c)
unfolding content_next
content_runs _ _ (contents.assignment {x = x} {e = e} {value = value} s) = inside_runs (Assign x) 0 value e (s.0, omega (arith, s.1))
content_runs _ _ (contents.write {e = e} {value = value} s) = inside_runs Output 0 value e (s.0, omega (arith, s.1))
content_runs _ _ (contents.store x {i = i} {e = e} {index = index} {value = value} name both) =
    let behind : List Token = Mark CloseSquare ∷ Mark Becomes ∷ value in
    run_one (AfterTarget x) (InIndex (array_of x) start) (Mark OpenSquare) ((index ++ behind) ++ (Mark Semicolon ∷ [])) (square_step x name)
    ∙ ap (runs content_next (InIndex (array_of x) start)) (append_assoc index behind (Mark Semicolon ∷ [])) ∙ store_runs (array_of x) index value i e both
content_runs _ _ (contents.conditional {e = e} {test = test} s) = inside_runs Test 0 test e (s.0, omega (arith, s.1))
content_runs _ _ (contents.while_loop {e = e} {test = test} s) = inside_runs Guard 0 test e (s.0, omega (arith, s.1))

-- ---- texts

content_text : (bytes : List ℕ) (ts : List Token) (s : ContentState) (c : Content) → Text false bytes ts → runs content_next Start ts ≡ Some s → content_read s ≡ Some c → IsContentText bytes c
content_text bytes ts (Ended d) c x r e =
    let h = content_is Start [] ts (Ended d) refl r in
    record { tokens = h.0; spelled = subst (SpellsContent h.0) (some_inj d c e) h.1; text = subst (Text false bytes) h.2 x }
content_text bytes ts Start c x r e = absurd (none_some e)
content_text bytes ts (AfterTarget y) c x r e = absurd (none_some e)
content_text bytes ts (InIndex a y) c x r e = absurd (none_some e)
content_text bytes ts (AfterIndex a i k) c x r e = absurd (none_some e)
content_text bytes ts (InExpression aim y) c x r e = absurd (none_some e)

read_at_end : (s : ContentState) → content_may_end s ≡ true → (c : Content) × (content_read s ≡ Some c)
read_at_end (Ended c) e = (c, refl)
read_at_end Start e = absurd (false≢true e)
read_at_end (AfterTarget y) e = absurd (false≢true e)
read_at_end (InIndex a y) e = absurd (false≢true e)
read_at_end (AfterIndex a i k) e = absurd (false≢true e)
read_at_end (InExpression aim y) e = absurd (false≢true e)

reading_content : (bytes : List ℕ) (s : ContentState) (c : Content) → IsReading content_next Start bytes s → content_read s ≡ Some c → IsContentText bytes c
reading_content bytes s c r e = content_text bytes r.tokens s c r.text r.leads e

accepts_content : (bytes : List ℕ) → Accepts content_next content_may_end Start bytes → HasContent bytes
accepts_content bytes a = let k = read_at_end a.last a.ends in (k.0, content_text bytes a.tokens a.last k.0 a.text a.leads k.1)

content_accepts : (bytes : List ℕ) → HasContent bytes → Accepts content_next content_may_end Start bytes
content_accepts bytes (c, h) = record { tokens = h.tokens ++ (Mark Semicolon ∷ []); last = Ended c; text = h.text; leads = content_runs h.tokens c h.spelled; ends = refl }

place_of_content : (bytes : List ℕ) (n : ℕ) → IsPlace (BeginsWith (Accepts content_next content_may_end Start)) bytes n → IsPlace (BeginsWith HasContent) bytes n
place_of_content bytes n h =
    same_place (BeginsWith (Accepts content_next content_may_end Start)) (BeginsWith HasContent) (λ bs (k, a). (k, accepts_content (take k bs) a)) (λ bs (k, a). (k, content_accepts (take k bs) a)) bytes n h

-- ---- counted from the start of all bytes

rest_is : (bytes : List ℕ) (start : ℕ) → slice_range bytes start (length bytes) ≡ drop start bytes
rest_is bytes start = take_all (length bytes - start) (drop start bytes) (omega (arith, length-drop start bytes))

pub text_from : (bytes : List ℕ) (start at : ℕ) (s : ContentState) (c : Content) → IsReading content_next Start (take (at + 1) (slice_range bytes start (length bytes))) s → content_read s ≡ Some c
    → IsContentText (slice_range bytes start (start + at + 1)) c
text_from bytes start at s c r e =
    let rest : List ℕ = slice_range bytes start (length bytes) in
    let same : at + 1 ≡ start + at + 1 - start = omega arith in
    let h : IsContentText (take (at + 1) (drop start bytes)) c = subst (λ (x : List ℕ). IsContentText (take (at + 1) x) c) (rest_is bytes start) (reading_content (take (at + 1) rest) s c r e) in
    subst (λ (n : ℕ). IsContentText (take n (drop start bytes)) c) same h

pub none_before : (bytes : List ℕ) (start at : ℕ) → ((n : ℕ) → n ≤ at → Accepts content_next content_may_end Start (take n (slice_range bytes start (length bytes))) → ⊥)
    → (n : ℕ) → n ≤ start + at → HasContent (slice_range bytes start n) → ⊥
none_before bytes start at go n le h =
    let a : Accepts content_next content_may_end Start (take (n - start) (drop start bytes)) = content_accepts (slice_range bytes start n) h in
    go (n - start) (omega (arith, le)) (subst (λ (x : List ℕ). Accepts content_next content_may_end Start (take (n - start) x)) (sym (rest_is bytes start)) a)

pub place_from : (bytes : List ℕ) (start n : ℕ) → IsPlace (BeginsWith (Accepts content_next content_may_end Start)) (slice_range bytes start (length bytes)) n → IsPlaceFrom start (BeginsWith HasContent) bytes (start + n)
place_from bytes start n h =
    (n, refl, subst (λ (x : List ℕ). IsPlace (BeginsWith HasContent) x n) (rest_is bytes start) (place_of_content (slice_range bytes start (length bytes)) n h))

pub sign_at : (bytes : List ℕ) (start at : ℕ) (s : ContentState) (c : Content) → at < length (slice_range bytes start (length bytes)) → IsReading content_next Start (take (at + 1) (slice_range bytes start (length bytes))) s
    → content_read s ≡ Some c → ((n : ℕ) → n ≤ at → Accepts content_next content_may_end Start (take n (slice_range bytes start (length bytes))) → ⊥) → slice_index bytes (start + at) ≡ 59
sign_at bytes start at s c lt r e go =
    let rest : List ℕ = slice_range bytes start (length bytes) in
    let h : get_or rest at 0 ≡ 59 = last_is_sign rest at lt (c, reading_content (take (at + 1) rest) s c r e) (λ n le k. go n le (content_accepts (take n rest) k)) in
    sym (get_or-drop start bytes at 0) ∙ ap (λ (x : List ℕ). get_or x at 0) (sym (rest_is bytes start)) ∙ h

-- the same bytes lead to the same end
pub one_content : OneContent
one_content bytes c d h k =
    let behind : List Token = Mark Semicolon ∷ [] in
    let same : Ended c ≡ Ended d =
    text_once content_next content_is_token_machine Start bytes (h.tokens ++ behind) (k.tokens ++ behind) (Ended c) (Ended d) h.text (content_runs h.tokens c h.spelled) k.text (content_runs k.tokens d k.spelled) in
    some_inj c d (ap content_read same)
