-- What a read of files with known contents answers.
use Rattle.std.specs.Prelude.{◌≡◌, ℕ, ◌-◌, Bool, false, ⊤, List, [], ◌∷◌, length, Option, Some, None, Result, Ok, Err, if◌then◌else◌, ◌==◌, nat_le}
use Rattle.std.specs.Str.{bytes_eq}
use Rattle.xh_outside.specs.declared.errors.ReadError.{ReadError}
use Rattle.xh_outside.specs.declared.errors.ReadError.TheVariants.{Failed, TooLong, NoMemory}

-- the content that is held under a name; the first entry counts
abbrev pub content_of : List (List ℕ × List ℕ) → List ℕ → Option (List ℕ)
content_of [] name = None
content_of (file ∷ files) name = if bytes_eq file.0 name then Some file.1 else content_of files name

-- a missing content fails, and one with more bytes than the limit is too long
abbrev pub read_within : Option (List ℕ) → ℕ → Result (List ℕ) ReadError
read_within None limit = Err Failed
read_within (Some content) limit = if nat_le (length content) limit then Ok content else Err TooLong

-- no call is left before the one that is made to fail
abbrev pub is_due : Option ℕ → Bool
is_due None = false
is_due (Some n) = n == 0

-- what a read answers where there is memory: the read that is due fails, whatever the contents
abbrev pub read_of : List (List ℕ × List ℕ) → Option ℕ → List ℕ → ℕ → Result (List ℕ) ReadError
read_of files left name limit = if is_due left then Err Failed else read_within (content_of files name) limit

-- the number of calls before the one that fails, after one more call; a call fails once
abbrev pub next_left : Option ℕ → Option ℕ
next_left None = None
next_left (Some n) = if n == 0 then None else Some (n - 1)

-- the second answer is the first, the one that is wanted, or a want of memory
abbrev pub IsAnswer : Result (List ℕ) ReadError → Result (List ℕ) ReadError → Type 0
IsAnswer want (Ok content) = want ≡ Ok content
IsAnswer want (Err Failed) = want ≡ Err Failed
IsAnswer want (Err TooLong) = want ≡ Err TooLong
IsAnswer want (Err NoMemory) = ⊤

-- each answer counts one read down, but a want of memory
abbrev pub left_after : Option ℕ → Result (List ℕ) ReadError → Option ℕ
left_after left (Ok content) = next_left left
left_after left (Err Failed) = next_left left
left_after left (Err TooLong) = next_left left
left_after left (Err NoMemory) = left
