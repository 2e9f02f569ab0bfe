-- What the machine of programs keeps for the reader of bytes.
--
-- goes_read          == where an expression reads the token, the program goes on in it
-- goes_in_index      == where the index of a store reads the token, the program goes on in it
-- is_token_machine l == the laws of a machine of tokens hold for `next l`
use Rattle.std.proofs.Common.{◌≡◌, ℕ, ◌≤◌, ◌^◌, List, length, Bool, true, false, nat_lt, nat_le, ◌&&◌, Option, Some, None, is_some, refl, sym, ap, subst, ◌∙◌, arith}
use Rattle.std.proofs.lemmas.Bool.{le-leb, le-ltb}
use Rattle.hpr_terms.specs.declared.limits.TheConstants.{MAX_LEVELS}
use Rattle.hpr_terms.specs.declared.tag.Tag.{Tag}
use Rattle.hpr_terms.specs.declared.keyword.Keyword.TheVariants.{Then, Do}
use Rattle.hpr_terms.specs.declared.token.Sign.{Sign}
use Rattle.hpr_terms.specs.declared.token.Sign.TheVariants.{Colon, Semicolon, CloseSquare, Less, Equal, Greater, GreaterEqual}
use Rattle.hpr_terms.specs.declared.token.Token.{Token}
use Rattle.hpr_terms.specs.declared.token.Token.TheVariants.{Word, Name, Number, Mark}
use Rattle.hpr_scan.specs.Machine.{IsTokenMachine}
use Rattle.hpr_expressions.specs.declared.expression.Reading.{Reading}
use Rattle.hpr_text.specs.declared.form.Mode.{Mode}
use Rattle.hpr_text.specs.declared.form.Mode.TheVariants.{Tagged, Untagged}
use Rattle.hpr_text.specs.declared.found.Found.{Found}
use Rattle.hpr_text.specs.declared.state.Purpose.{Purpose}
use Rattle.hpr_text.specs.declared.state.Purpose.TheVariants.{Assign, Test, Guard, Output, Store}
use Rattle.hpr_text.specs.declared.state.Place.{Place}
use Rattle.hpr_text.specs.declared.state.Place.TheVariants.{Start, AfterProgram, BeforePair, AfterPairAuthor, AfterPairColon, AfterPair, AtPart, AfterAuthor, AfterDot, AfterSerial, AfterColon, AfterTarget, InIndex, AfterIndex, InExpression, AfterEnd, AfterOpen, AfterName, AfterNameOpen, AfterFinal, AfterComma, AtEnd}
use Rattle.hpr_text.specs.declared.state.State.{State}
use Rattle.hpr_expressions.specs.Expression.{read}
use Rattle.hpr_expressions.specs.Laws.{guarded, guards, unguarded, below, reading_is_token_machine, no_semicolon, no_then, no_do, square_inside}
use Rattle.hpr_text.specs.Machine.{state_at, next_at, next, goes_on, expression_next, first_next, part_begun, tag_next}

-- ---- expressions

name_goes : (l : Option ℕ) (f : Found) (p : Purpose) (r : Reading) (x : List ℕ) → expression_next l f p r (Name x) ≡ goes_on f (InExpression p) (read r (Name x))
name_goes l f (Assign t y) r x = refl
name_goes l f (Test t) r x = refl
name_goes l f (Guard t) r x = refl
name_goes l f (Output t) r x = refl
name_goes l f (Store t a i) r x = refl

number_goes : (l : Option ℕ) (f : Found) (p : Purpose) (r : Reading) (n : ℕ) → expression_next l f p r (Number n) ≡ goes_on f (InExpression p) (read r (Number n))
number_goes l f (Assign t y) r n = refl
number_goes l f (Test t) r n = refl
number_goes l f (Guard t) r n = refl
number_goes l f (Output t) r n = refl
number_goes l f (Store t a i) r n = refl

equal_goes : (l : Option ℕ) (f : Found) (p : Purpose) (r : Reading) → expression_next l f p r (Mark Equal) ≡ goes_on f (InExpression p) (read r (Mark Equal))
equal_goes l f (Assign t y) r = refl
equal_goes l f (Test t) r = refl
equal_goes l f (Guard t) r = refl
equal_goes l f (Output t) r = refl
equal_goes l f (Store t a i) r = refl

colon_goes : (l : Option ℕ) (f : Found) (p : Purpose) (r : Reading) → expression_next l f p r (Mark Colon) ≡ goes_on f (InExpression p) (read r (Mark Colon))
colon_goes l f (Assign t y) r = refl
colon_goes l f (Test t) r = refl
colon_goes l f (Guard t) r = refl
colon_goes l f (Output t) r = refl
colon_goes l f (Store t a i) r = refl

less_goes : (l : Option ℕ) (f : Found) (p : Purpose) (r : Reading) → expression_next l f p r (Mark Less) ≡ goes_on f (InExpression p) (read r (Mark Less))
less_goes l f (Assign t y) r = refl
less_goes l f (Test t) r = refl
less_goes l f (Guard t) r = refl
less_goes l f (Output t) r = refl
less_goes l f (Store t a i) r = refl

greater_goes : (l : Option ℕ) (f : Found) (p : Purpose) (r : Reading) → expression_next l f p r (Mark Greater) ≡ goes_on f (InExpression p) (read r (Mark Greater))
greater_goes l f (Assign t y) r = refl
greater_goes l f (Test t) r = refl
greater_goes l f (Guard t) r = refl
greater_goes l f (Output t) r = refl
greater_goes l f (Store t a i) r = refl

greater_equal_goes : (l : Option ℕ) (f : Found) (p : Purpose) (r : Reading) → expression_next l f p r (Mark GreaterEqual) ≡ goes_on f (InExpression p) (read r (Mark GreaterEqual))
greater_equal_goes l f (Assign t y) r = refl
greater_equal_goes l f (Test t) r = refl
greater_equal_goes l f (Guard t) r = refl
greater_equal_goes l f (Output t) r = refl
greater_equal_goes l f (Store t a i) r = refl

some_goes : (f : Found) (p : Reading → Place) (o : Option Reading) → is_some (goes_on f p o) ≡ is_some o
some_goes f p None = refl
some_goes f p (Some r) = refl

pub goes_read : (l : Option ℕ) (f : Found) (p : Purpose) (r n : Reading) (t : Token) → read r t ≡ Some n → next l (state_at f (InExpression p r)) t ≡ Some (state_at f (InExpression p n))
unfolding next
goes_read l f (Assign g x) r n (Mark Semicolon) e = absurd (no_semicolon r n e)
goes_read l f (Test g) r n (Word Then) e = absurd (no_then r n e)
goes_read l f (Guard g) r n (Word Do) e = absurd (no_do r n e)
goes_read l f (Output g) r n (Mark Semicolon) e = absurd (no_semicolon r n e)
goes_read l f (Store g a i) r n (Mark Semicolon) e = absurd (no_semicolon r n e)
goes_read l f p r n t e = rw e refl

-- ---- the index of a store

pub goes_in_index : (l : Option ℕ) (f : Found) (g : Tag) (a : List ℕ) (r n : Reading) (t : Token) → read r t ≡ Some n → next l (state_at f (InIndex g a r)) t ≡ Some (state_at f (InIndex g a n))
unfolding next
goes_in_index l f g a r n (Mark CloseSquare) e = rw (square_inside r n e, e) refl
goes_in_index l f g a r n t e = rw e refl

-- ---- tests

second : (a b : Bool) → (a && b) ≡ true → b ≡ true
second true b e = e
second false b e = absurd cc

with_second : (a b c : Bool) → (a && b) ≡ true → c ≡ true → (a && c) ≡ true
with_second true b c e f = f
with_second false b c e f = absurd cc

within : (m n limit : ℕ) → 1 ≤ m → m ≤ n → (nat_le 1 n && nat_lt n limit) ≡ true → (nat_le 1 m && nat_lt m limit) ≡ true
within m n limit one le e = rw (le-leb 1 m one) (below m n limit le (second (nat_le 1 n) (nat_lt n limit) e))

beside : (a : Bool) (m n limit : ℕ) → m ≤ n → (a && nat_lt n limit) ≡ true → (a && nat_lt m limit) ≡ true
beside a m n limit le e = with_second a (nat_lt n limit) (nat_lt m limit) e (below m n limit le (second a (nat_lt n limit) e))

outside : (b : Bool) (n limit : ℕ) → nat_lt n limit ≡ false → (b && nat_lt n limit) ≡ false
outside true n limit e = e
outside false n limit e = refl

-- ---- names and numbers

names_first : (o : Option (Found × Tag)) (x y : List ℕ) → is_some (first_next o (Name x)) ≡ is_some (first_next o (Name y))
names_first None x y = refl
names_first (Some b) x y = refl

names_alike : (l : Option ℕ) (f : Found) (p : Place) (x y : List ℕ) → is_some (next_at l f p (Name x)) ≡ is_some (next_at l f p (Name y))
names_alike l f (InExpression p r) x y =
    ap is_some (name_goes l f p r x) ∙ some_goes f (InExpression p) (read r (Name x)) ∙ reading_is_token_machine.names r x y ∙ sym (some_goes f (InExpression p) (read r (Name y)))
    ∙ ap is_some (sym (name_goes l f p r y))
names_alike l f (InIndex g a r) x y = some_goes f (InIndex g a) (read r (Name x)) ∙ reading_is_token_machine.names r x y ∙ sym (some_goes f (InIndex g a) (read r (Name y)))
names_alike l f Start x y = refl
names_alike l f AfterProgram x y = names_first (part_begun l f) x y
names_alike l f BeforePair x y = refl
names_alike l f (AfterPairAuthor a) x y = refl
names_alike l f (AfterPairColon a) x y = refl
names_alike l f AfterPair x y = names_first (part_begun l f) x y
names_alike l f AtPart x y = names_first (part_begun l f) x y
names_alike l f (AfterAuthor a) x y = refl
names_alike l f (AfterDot a) x y = refl
names_alike l f (AfterSerial g) x y = refl
names_alike l f (AfterColon g) x y = refl
names_alike l f (AfterTarget g z) x y = refl
names_alike l f (AfterIndex g a i k) x y = refl
names_alike l f AfterEnd x y = refl
names_alike l f AfterOpen x y = refl
names_alike l f (AfterName z) x y = refl
names_alike l f (AfterNameOpen a) x y = refl
names_alike l f AfterFinal x y = refl
names_alike l f AfterComma x y = refl
names_alike l f AtEnd x y = refl

smaller_in : (l : Option ℕ) (f : Found) (p : Purpose) (r : Reading) (m n : ℕ) → 1 ≤ m → m ≤ n → is_some (expression_next l f p r (Number n)) ≡ true → is_some (expression_next l f p r (Number m)) ≡ true
smaller_in l f p r m n one le e =
    ap is_some (number_goes l f p r m) ∙ some_goes f (InExpression p) (read r (Number m))
    ∙ reading_is_token_machine.smaller r m n one le (sym (some_goes f (InExpression p) (read r (Number n))) ∙ ap is_some (sym (number_goes l f p r n)) ∙ e)

smaller_tag : (o : Mode) (f : Found) (m n : ℕ) → m ≤ n → is_some (tag_next o f n) ≡ true → is_some (tag_next o f m) ≡ true
smaller_tag Tagged f m n le e =
    guards (nat_lt (length f.blocks) MAX_LEVELS && nat_lt m (2 ^ 32)) _
    (beside (nat_lt (length f.blocks) MAX_LEVELS) m n (2 ^ 32) le (guarded (nat_lt (length f.blocks) MAX_LEVELS && nat_lt n (2 ^ 32)) _ e))
smaller_tag (Untagged a) f m n le e = absurd cc

smaller_at : (l : Option ℕ) (f : Found) (p : Place) (m n : ℕ) → 1 ≤ m → m ≤ n → is_some (next_at l f p (Number n)) ≡ true → is_some (next_at l f p (Number m)) ≡ true
smaller_at l f AfterProgram m n one le e = smaller_tag f.mode f m n le e
smaller_at l f AfterPair m n one le e = smaller_tag f.mode f m n le e
smaller_at l f AtPart m n one le e = smaller_tag f.mode f m n le e
smaller_at l f BeforePair m n one le e = guards (nat_lt m (2 ^ 32)) _ (below m n (2 ^ 32) le (guarded (nat_lt n (2 ^ 32)) _ e))
smaller_at l f (AfterPairColon a) m n one le e = guards (nat_le 1 m && nat_lt m (2 ^ 32)) _ (within m n (2 ^ 32) one le (guarded (nat_le 1 n && nat_lt n (2 ^ 32)) _ e))
smaller_at l f (AfterDot a) m n one le e = guards (nat_le 1 m && nat_lt m (2 ^ 32)) _ (within m n (2 ^ 32) one le (guarded (nat_le 1 n && nat_lt n (2 ^ 32)) _ e))
smaller_at l f (InExpression p r) m n one le e = smaller_in l f p r m n one le e
smaller_at l f (InIndex g a r) m n one le e =
    some_goes f (InIndex g a) (read r (Number m)) ∙ reading_is_token_machine.smaller r m n one le (sym (some_goes f (InIndex g a) (read r (Number n))) ∙ e)
smaller_at l f Start m n one le e = absurd cc
smaller_at l f (AfterPairAuthor a) m n one le e = absurd cc
smaller_at l f (AfterAuthor a) m n one le e = absurd cc
smaller_at l f (AfterSerial g) m n one le e = absurd cc
smaller_at l f (AfterColon g) m n one le e = absurd cc
smaller_at l f (AfterTarget g x) m n one le e = absurd cc
smaller_at l f (AfterIndex g a i k) m n one le e = absurd cc
smaller_at l f AfterEnd m n one le e = absurd cc
smaller_at l f AfterOpen m n one le e = absurd cc
smaller_at l f (AfterName x) m n one le e = absurd cc
smaller_at l f (AfterNameOpen a) m n one le e = absurd cc
smaller_at l f AfterFinal m n one le e = absurd cc
smaller_at l f AfterComma m n one le e = absurd cc
smaller_at l f AtEnd m n one le e = absurd cc

bounded_tag : (o : Mode) (f : Found) (n : ℕ) → 2 ^ 64 ≤ n → tag_next o f n ≡ None
bounded_tag Tagged f n le =
    unguarded (nat_lt (length f.blocks) MAX_LEVELS && nat_lt n (2 ^ 32)) _ (outside (nat_lt (length f.blocks) MAX_LEVELS) n (2 ^ 32) (le-ltb n (2 ^ 32) (omega (arith, le))))
bounded_tag (Untagged a) f n le = refl

bounded_at : (l : Option ℕ) (f : Found) (p : Place) (n : ℕ) → 2 ^ 64 ≤ n → next_at l f p (Number n) ≡ None
bounded_at l f (InExpression p r) n le = number_goes l f p r n ∙ ap (goes_on f (InExpression p)) (reading_is_token_machine.bounded r n le)
bounded_at l f (InIndex g a r) n le = ap (goes_on f (InIndex g a)) (reading_is_token_machine.bounded r n le)
bounded_at l f AfterProgram n le = bounded_tag f.mode f n le
bounded_at l f AfterPair n le = bounded_tag f.mode f n le
bounded_at l f AtPart n le = bounded_tag f.mode f n le
bounded_at l f BeforePair n le = unguarded (nat_lt n (2 ^ 32)) _ (le-ltb n (2 ^ 32) (omega (arith, le)))
bounded_at l f (AfterPairColon a) n le = unguarded (nat_le 1 n && nat_lt n (2 ^ 32)) _ (outside (nat_le 1 n) n (2 ^ 32) (le-ltb n (2 ^ 32) (omega (arith, le))))
bounded_at l f (AfterDot a) n le = unguarded (nat_le 1 n && nat_lt n (2 ^ 32)) _ (outside (nat_le 1 n) n (2 ^ 32) (le-ltb n (2 ^ 32) (omega (arith, le))))
bounded_at l f Start n le = refl
bounded_at l f (AfterPairAuthor a) n le = refl
bounded_at l f (AfterAuthor a) n le = refl
bounded_at l f (AfterSerial g) n le = refl
bounded_at l f (AfterColon g) n le = refl
bounded_at l f (AfterTarget g x) n le = refl
bounded_at l f (AfterIndex g a i k) n le = refl
bounded_at l f AfterEnd n le = refl
bounded_at l f AfterOpen n le = refl
bounded_at l f (AfterName x) n le = refl
bounded_at l f (AfterNameOpen a) n le = refl
bounded_at l f AfterFinal n le = refl
bounded_at l f AfterComma n le = refl
bounded_at l f AtEnd n le = refl

-- ---- signs that may be the front of a longer one

-- the sign cannot stand next
abbrev Stops : Option ℕ → Sign → State → Type 0
Stops l x s = next_at l s.found s.place (Mark x) ≡ None

some_is : {A : Type 0} (x y : A) → Some x ≡ Some y → x ≡ y
some_is x y e = cc

-- where an expression goes on, it has read the token
goes_to : (f : Found) (p : Reading → Place) (o : Option Reading) (n : State) → goes_on f p o ≡ Some n → (m : Reading) × (o ≡ Some m) × (state_at f (p m) ≡ n)
goes_to f p None n e = absurd cc
goes_to f p (Some m) n e = (m, refl, some_is _ _ e)

stops_in : (l : Option ℕ) (f : Found) (p : Reading → Place) (x : Sign) (m : Reading) (n : State) → next_at l f (p m) (Mark x) ≡ goes_on f p (read m (Mark x)) → read m (Mark x) ≡ None
    → state_at f (p m) ≡ n → Stops l x n
stops_in l f p x m n goes none e = subst (Stops l x) e (goes ∙ ap (goes_on f p) none)

colon_equal : (l : Option ℕ) (f : Found) (p : Place) (n : State) → next_at l f p (Mark Colon) ≡ Some n → Stops l Equal n
colon_equal l f (AfterPairAuthor a) n e = subst (Stops l Equal) (some_is (state_at f (AfterPairColon a)) n e) refl
colon_equal l f (AfterSerial g) n e = subst (Stops l Equal) (some_is (state_at f (AfterColon g)) n e) refl
colon_equal l f (InExpression p r) n e =
    let m = goes_to f (InExpression p) (read r (Mark Colon)) n (sym (colon_goes l f p r) ∙ e) in
    stops_in l f (InExpression p) Equal m.0 n (equal_goes l f p m.0) (reading_is_token_machine.colon r m.0 m.1) m.2
colon_equal l f (InIndex g a r) n e =
    let m = goes_to f (InIndex g a) (read r (Mark Colon)) n e in
    stops_in l f (InIndex g a) Equal m.0 n refl (reading_is_token_machine.colon r m.0 m.1) m.2
colon_equal l f p n e = absurd cc

less_equal : (l : Option ℕ) (f : Found) (p : Place) (n : State) → next_at l f p (Mark Less) ≡ Some n → Stops l Equal n
less_equal l f (InExpression p r) n e =
    let m = goes_to f (InExpression p) (read r (Mark Less)) n (sym (less_goes l f p r) ∙ e) in
    stops_in l f (InExpression p) Equal m.0 n (equal_goes l f p m.0) (reading_is_token_machine.less_equal r m.0 m.1) m.2
less_equal l f (InIndex g a r) n e =
    let m = goes_to f (InIndex g a) (read r (Mark Less)) n e in
    stops_in l f (InIndex g a) Equal m.0 n refl (reading_is_token_machine.less_equal r m.0 m.1) m.2
less_equal l f p n e = absurd cc

less_greater : (l : Option ℕ) (f : Found) (p : Place) (n : State) → next_at l f p (Mark Less) ≡ Some n → Stops l Greater n
less_greater l f (InExpression p r) n e =
    let m = goes_to f (InExpression p) (read r (Mark Less)) n (sym (less_goes l f p r) ∙ e) in
    stops_in l f (InExpression p) Greater m.0 n (greater_goes l f p m.0) (reading_is_token_machine.less_greater r m.0 m.1) m.2
less_greater l f (InIndex g a r) n e =
    let m = goes_to f (InIndex g a) (read r (Mark Less)) n e in
    stops_in l f (InIndex g a) Greater m.0 n refl (reading_is_token_machine.less_greater r m.0 m.1) m.2
less_greater l f p n e = absurd cc

less_greater_equal : (l : Option ℕ) (f : Found) (p : Place) (n : State) → next_at l f p (Mark Less) ≡ Some n → Stops l GreaterEqual n
less_greater_equal l f (InExpression p r) n e =
    let m = goes_to f (InExpression p) (read r (Mark Less)) n (sym (less_goes l f p r) ∙ e) in
    stops_in l f (InExpression p) GreaterEqual m.0 n (greater_equal_goes l f p m.0) (reading_is_token_machine.less_greater_equal r m.0 m.1) m.2
less_greater_equal l f (InIndex g a r) n e =
    let m = goes_to f (InIndex g a) (read r (Mark Less)) n e in
    stops_in l f (InIndex g a) GreaterEqual m.0 n refl (reading_is_token_machine.less_greater_equal r m.0 m.1) m.2
less_greater_equal l f p n e = absurd cc

greater_equal : (l : Option ℕ) (f : Found) (p : Place) (n : State) → next_at l f p (Mark Greater) ≡ Some n → Stops l Equal n
greater_equal l f (InExpression p r) n e =
    let m = goes_to f (InExpression p) (read r (Mark Greater)) n (sym (greater_goes l f p r) ∙ e) in
    stops_in l f (InExpression p) Equal m.0 n (equal_goes l f p m.0) (reading_is_token_machine.greater r m.0 m.1) m.2
greater_equal l f (InIndex g a r) n e =
    let m = goes_to f (InIndex g a) (read r (Mark Greater)) n e in
    stops_in l f (InIndex g a) Equal m.0 n refl (reading_is_token_machine.greater r m.0 m.1) m.2
greater_equal l f p n e = absurd cc

pub is_token_machine : (l : Option ℕ) → IsTokenMachine (next l)
unfolding next
is_token_machine l = record {
  names = λ s x y. names_alike l s.found s.place x y;
  smaller = λ s m n one le e. smaller_at l s.found s.place m n one le e;
  bounded = λ s n le. bounded_at l s.found s.place n le;
  colon = λ s n e. colon_equal l s.found s.place n e;
  less_equal = λ s n e. less_equal l s.found s.place n e;
  less_greater = λ s n e. less_greater l s.found s.place n e;
  less_greater_equal = λ s n e. less_greater_equal l s.found s.place n e;
  greater = λ s n e. greater_equal l s.found s.place n e;
}
