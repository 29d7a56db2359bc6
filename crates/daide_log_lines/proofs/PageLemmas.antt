-- What the writer has, followed by the page.
use Rattle.std.proofs.Common.{◌≡◌, ℕ, List, [], ◌++◌, Option, Some, None, refl, sym, ap, ◌∙◌, append-nil}
use Rattle.std.specs.Io.KnownBytes.{Appends, Keeps, append_known}

pub keeps_all : (a : Option (List ℕ)) → Keeps a a
keeps_all None = tt
keeps_all (Some x) = refl

pub keeps_more : (a b c : Option (List ℕ)) → Keeps a b → Keeps b c → Keeps a c
keeps_more None b c h k = tt
keeps_more (Some x) None c h k = absurd h
keeps_more (Some x) (Some y) None h k = absurd k
keeps_more (Some x) (Some y) (Some z) h k = k ∙ h

pub keeps_and_appends : (a b c : Option (List ℕ)) (text : List ℕ) → Keeps a b → Appends b c text → Appends a c text
keeps_and_appends None b c text h k = tt
keeps_and_appends (Some x) None c text h k = absurd h
keeps_and_appends (Some x) (Some y) None text h k = absurd k
keeps_and_appends (Some x) (Some y) (Some z) text h k = k ∙ ap (λ (l : List ℕ). l ++ text) h

pub appends_and_keeps : (a b c : Option (List ℕ)) (text : List ℕ) → Appends a b text → Keeps b c → Appends a c text
appends_and_keeps None b c text h k = tt
appends_and_keeps (Some x) None c text h k = absurd h
appends_and_keeps (Some x) (Some y) None text h k = absurd k
appends_and_keeps (Some x) (Some y) (Some z) text h k = k ∙ h

-- the page is empty
pub none_held : (known : Option (List ℕ)) → append_known known [] ≡ known
none_held None = refl
none_held (Some x) = ap Some (append-nil x)

pub keeps_appends : (a b : Option (List ℕ)) → Keeps a b → Appends a b []
keeps_appends None b h = tt
keeps_appends (Some x) None h = absurd h
keeps_appends (Some x) (Some y) h = h ∙ sym (append-nil x)
