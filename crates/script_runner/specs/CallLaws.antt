-- Laws about what a writer holds after two calls, and about the error of a failed call.
use Rattle.std.proofs.Common.{◌∙◌, ℕ, List, ◌++◌, Option, None, Some, Result, Ok, Err, IfErr}
use Rattle.std.proofs.Common.{append_assoc, refl}
use Rattle.std.specs.Result.{IsErrAnd}
use Rattle.std.specs.Io.KnownBytes.{Appends, Keeps}

-- If a writer holds the same as before, it keeps what it held (`Keeps`).
pub keeps_same : (known : Option (List ℕ)) → Keeps known known
keeps_same None = tt
keeps_same (Some bytes) = refl

-- If a writer appends `x`, and then `y`, it appended `x ++ y`.
pub appends_twice : (a b c : Option (List ℕ)) (x y : List ℕ) → Appends a b x → Appends b c y
    → Appends a c (x ++ y)
appends_twice None b c x y first second = tt
appends_twice (Some a) None c x y first second = absurd first
appends_twice (Some a) (Some b) None x y first second = absurd second
appends_twice (Some a) (Some b) (Some c) x y first second =
    second ∙ rw first (append_assoc a x y)

-- If a writer appends `x` in one call, and keeps what it holds in the next, both calls together
-- append `x`.
pub appends_kept : (a b c : Option (List ℕ)) (x : List ℕ) → Appends a b x → Keeps b c
    → Appends a c x
appends_kept None b c x first second = tt
appends_kept (Some a) None c x first second = absurd first
appends_kept (Some a) (Some b) None x first second = absurd second
appends_kept (Some a) (Some b) (Some c) x first second = second ∙ first

-- If a writer keeps what it holds in each of two calls, it keeps what it held before both.
pub keeps_twice : (a b c : Option (List ℕ)) → Keeps a b → Keeps b c → Keeps a c
keeps_twice None b c first second = tt
keeps_twice (Some a) None c first second = absurd first
keeps_twice (Some a) (Some b) None first second = absurd second
keeps_twice (Some a) (Some b) (Some c) first second = second ∙ first

-- If a call failed with an error for which `Q` holds, and `Q` implies `P`, then `P` holds for the
-- error.
pub on_error : {T E : Type 0} {Q P : E → Type 0} (r : Result T E) → IsErrAnd r Q
    → ((e : E) → Q e → P e) → IfErr r P
on_error (Ok x) fails follows = absurd fails
on_error (Err e) fails follows = follows e fails
