-- Answers that follow others, and the error that a call hands on.
use Rattle.std.proofs.Common.{◌≡◌, Bool, true, false, Option, Some, None, Result, Ok, Err, refl, ap, if◌then◌else◌}
use Rattle.std.specs.Prelude.{MatchBool, ⊤, is_ok}
use Rattle.std.specs.Result.{IsErrAnd}
use Rattle.ebpf_base.specs.Faults.{Gives, if_ok}
use Rattle.ebpf_btf.specs.Next.{if_some}

module _ {X E : Type 0} where
  pub same_ok : (x y : X) → ◌≡◌ {A = Result X E} (Ok x) (Ok y) → x ≡ y
  same_ok x y e = ap given e
    where
      given : Result X E → X
      given (Ok z) = z
      given (Err z) = x

  pub ok_some : (r : Result X E) → is_ok r ≡ true → (x : X) × (r ≡ Ok x)
  ok_some (Ok x) e = (x, refl)
  ok_some (Err x) e = cc

module _ {A X E : Type 0} where
  -- what the answer and its follower are, where no fault stands
  pub ok_parts : (r : Result A E) (next : A → Result X E) (x : X) → if_ok r next ≡ Ok x → (a : A) × (r ≡ Ok a) × (next a ≡ Ok x)
  ok_parts (Ok a) next x e = (a, refl, e)
  ok_parts (Err f) next x e = cc

  -- what holds of its fault, and of what follows it
  pub by_answer : (P : Result X E → Type 0) (r : Result A E) (next : A → Result X E) → ((e : E) → r ≡ Err e → P (Err e)) → ((a : A) → r ≡ Ok a → P (next a)) → P (if_ok r next)
  by_answer P (Ok a) next at_fault more = more a refl
  by_answer P (Err e) next at_fault more = at_fault e refl

pub by_option : {A X : Type 0} (P : X → Type 0) (o : Option A) (next : A → X) (other : X) → (o ≡ None → P other) → ((a : A) → o ≡ Some a → P (next a)) → P (if_some o next other)
by_option P None next other without more = without refl
by_option P (Some a) next other without more = more a refl

pub by_test : {X : Type 0} (P : X → Type 0) (b : Bool) (x y : X) → (b ≡ true → P x) → (b ≡ false → P y) → P (if b then x else y)
by_test P true x y where_true where_false = where_true refl
by_test P false x y where_true where_false = where_false refl

-- ---- the error that a call hands on

-- the error is this one
pub handed_on : {X E : Type 0} (r : Result X E) (e : E) → IsErrAnd r (λ f. f ≡ e) → r ≡ Err e
handed_on (Ok x) e is = absurd is
handed_on (Err f) e is = ap Err is

pub matched : (b : Bool) (P Q : Type 0) → (P → Q) → MatchBool b ⊤ P → MatchBool b ⊤ Q
matched true P Q to p = tt
matched false P Q to p = to p

-- what is answered exactly is answered
pub exact : {X E : Type 0} (memory : E → Bool) (r stated : Result X E) → stated ≡ r → Gives memory r stated
exact memory (Ok x) stated is = is
exact memory (Err e) stated is = always (memory e) (stated ≡ Err e) is
  where
    always : (b : Bool) (P : Type 0) → P → MatchBool b ⊤ P
    always true P p = tt
    always false P p = p

-- what is stated of an error is stated of one that it leads to
pub refused : {X Y E F : Type 0} (memory : E → Bool) (also : F → Bool) (e : E) (f : F) (one : Result Y E) (r other : Result X F)
    → r ≡ Err f → also f ≡ memory e → (one ≡ Err e → other ≡ Err f) → Gives memory (Err e) one → Gives also r other
refused memory also e f one r other is same to given = rw (is, same) (matched (memory e) (one ≡ Err e) (other ≡ Err f) to given)
