-- What is read by a name: standard input, or the file that was opened by it. (own)
use Rattle.std.specs.Prelude.{◌≡◌, ◌≢◌, ◌⊎◌, ℕ, List, codes, Option, IfSome, Result, Ok, Err}
use Rattle.std.specs.declared.io.ErrorKind.{ErrorKind}

-- the name of standard input
abbrev pub standard_input : List ℕ
standard_input = codes "-"

-- Files, by the relation between a name and what was opened by it, and by the bytes that a file has left.
module _ {F : Type 0} (Opens : List ℕ → Result F ErrorKind → Type 0) (remaining : F → Option (List ℕ)) where
  -- a text is that of a file that was opened by this name
  abbrev pub IsTextAt : List ℕ → List ℕ → Type 0
  IsTextAt name text = (file : F) × Opens name (Ok file) × IfSome (remaining file) (λ all. text ≡ all)

  -- A file that was opened was read by this relation between its bytes before and after. If none could be opened, this is
  -- so instead.
  abbrev pub ReadsOpened : (Option (List ℕ) → Option (List ℕ) → Type 0) → Type 0 → Result F ErrorKind → Type 0
  ReadsOpened Reads Else (Ok file) = (left : Option (List ℕ)) × Reads (remaining file) left
  ReadsOpened Reads Else (Err cause) = Else

  -- The input of this name was read: standard input, by its bytes before and after; or what was opened by the name, and
  -- then standard input is unread.
  abbrev pub ReadsNamed : List ℕ → (Option (List ℕ) → Option (List ℕ) → Type 0) → Type 0 → Option (List ℕ) →
      Option (List ℕ) → Type 0
  ReadsNamed name Reads Else old new = ((name ≡ standard_input) × Reads old new)
      ⊎ ((name ≢ standard_input) × (new ≡ old) × (opened : Result F ErrorKind) × Opens name opened
      × ReadsOpened Reads Else opened)
