-- What is there is what a read answers, and no read of it fails.
use Rattle.std.proofs.Common.{inl, inr, ◌≡◌, ℕ, ◌<◌, ◌≤◌, List, [], ◌∷◌, length, Option, Some, None, sym, ap, ◌∙◌, length-append, arith}
use Rattle.std.specs.Prelude.{IfSome, IsSomeAnd}
use Rattle.std.proofs.lemmas.List.{append_cancel_left}
use Rattle.program_io.specs.outside.Causes.{Told, Rose}
use Rattle.program_io.specs.outside.Log.{NamedBytes, noted}
use Rattle.program_io.specs.Files.{FilesView, HasRead, IsLonger, IsUnread, NothingRead}
use Rattle.plain_command.specs.Ends.{IsThere}

some-same : {A : Type 0} (o : Option A) (a b : A) → o ≡ Some a → o ≡ Some b → a ≡ b
some-same (Some x) a b e f = cc
some-same None a b e f = absurd cc

abbrev first-bytes : List NamedBytes → List ℕ
first-bytes [] = []
first-bytes (x ∷ xs) = x.bytes

-- two answers with which a log goes on hold the same bytes
noted-bytes : (log : List NamedBytes) (name read bytes : List ℕ) → noted log name read ≡ noted log name bytes → read ≡ bytes
noted-bytes log name read bytes e =
    ap first-bytes (append_cancel_left log (record { name = name; bytes = read } ∷ []) (record { name = name; bytes = bytes } ∷ []) e)

-- no read answered, though one did
unanswered : (log after : List NamedBytes) (name bytes : List ℕ) → after ≡ log → after ≡ noted log name bytes → ⊥
unanswered log after name bytes e f =
    omega (arith, ap (λ (l : List NamedBytes). length l) (sym e ∙ f), length-append log (record { name = name; bytes = bytes } ∷ []))

told-bytes : (told : Told) (name read bytes : List ℕ) → IsSomeAnd told (λ files. files name ≡ Some bytes) → IfSome told (λ files. files name ≡ Some read) → read ≡ bytes
told-bytes None name read bytes there held = absurd there
told-bytes (Some files) name read bytes there held = some-same (files name) read bytes held there

told-missing : (told : Told) (name bytes : List ℕ) → IsSomeAnd told (λ files. files name ≡ Some bytes) → IsSomeAnd told (λ files. files name ≡ None) → ⊥
told-missing None name bytes there missing = there
told-missing (Some files) name bytes there missing = absurd cc

above : (max : ℕ) (held : Option (List ℕ)) (bytes : List ℕ) → held ≡ Some bytes → IsSomeAnd held (λ bytes. max < length bytes) → max < length bytes
above max held bytes e over = rw e at over

told-above : (max : ℕ) (told : Told) (name bytes : List ℕ) → IsSomeAnd told (λ files. files name ≡ Some bytes) → IfSome told (λ files. IsSomeAnd (files name) (λ bytes. max < length bytes)) → max < length bytes
told-above max None name bytes there over = absurd there
told-above max (Some files) name bytes there over = above max (files name) bytes there over

-- a read answered just the bytes that are there
pub same-bytes : (max : ℕ) (before after : FilesView) (name read bytes : List ℕ) → IsThere before after name bytes → HasRead max before after name read → read ≡ bytes
same-bytes max before after name read bytes (inl told) r = told-bytes before.told name read bytes told r.held
same-bytes max before after name read bytes (inr answered) r = noted-bytes before.answered name read bytes (sym r.answered ∙ answered)

-- what is there is read, unless a read fails
pub not-unread : (before after : FilesView) (name bytes : List ℕ) → IsThere before after name bytes → after.answered ≡ before.answered → IsUnread before after name
    → (Rose before.reads after.reads → ⊥) → ⊥
not-unread before after name bytes there e (inl rose) sound = sound rose
not-unread before after name bytes (inl told) e (inr missing) sound = told-missing before.told name bytes told missing.1
not-unread before after name bytes (inr answered) e (inr missing) sound = unanswered before.answered after.answered name bytes e answered

-- what is there and isn't larger than is allowed is no limit's fault
pub not-over : (max : ℕ) (before after : FilesView) (name bytes : List ℕ) → IsThere before after name bytes → length bytes ≤ max → NothingRead before after → IsLonger max before name → ⊥
not-over max before after name bytes (inl told) fits nothing over = omega (arith, told-above max before.told name bytes told over)
not-over max before after name bytes (inr answered) fits nothing over = unanswered before.answered after.answered name bytes nothing.answered answered
