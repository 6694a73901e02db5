-- Writes behind writes.
use Rattle.std.proofs.Common.{rules, arith, ◌≡◌, ◌≢◌, ℕ, ◌+◌, ◌<◌, inl, inr, List, [], ◌∷◌, ◌++◌, length, map, subst, take, drop, get_or, refl, sym, ap, ◌∙◌, append_assoc, length-append}
use Rattle.std.specs.Prelude.{All, Some, None, IfSome, Result, Ok, Err}
use Rattle.std.proofs.lemmas.List.{append-nil, get_or_append_left, get_or-append-add, map-append, map_more, take-append-drop}
use Rattle.outside.specs.Causes.{Told}
use Rattle.outside.specs.Causes.{OthersStay as OthersStayBut}
use Rattle.outside.specs.Log.{NamedBytes}
use Rattle.script_input.specs.Files.{FilesView}
use Rattle.run_output.specs.declared.writing.OutputFault.{OutputFault}
use Rattle.run_output.specs.declared.writing.OutputFault.TheVariants.{WriteFault, NoMemory}
use Rattle.run_output.proofs.Held.{hold-none, hold-one, hold-then}
use Rattle.run_output.specs.Ends.{OthersStay, HoldWritten, TouchesOnly, WroteAll, WriteFailed, FailedAt, WroteFront, FilesEnd, SinkView, TextEnds, OutputEnds}

all-left : {X : Type 0} (P : X → Type 0) (xs ys : List X) → All P (xs ++ ys) → All P xs
all-left P xs ys h = λ k d l. rw (sym (get_or_append_left xs ys d k l)) (h k d (rw (length-append xs ys) (omega (arith, l))))

all-right : {X : Type 0} (P : X → Type 0) (xs ys : List X) → All P (xs ++ ys) → All P ys
all-right P xs ys h = λ k d l. rw (sym (get_or-append-add xs ys k d)) (h (length xs + k) d (rw (length-append xs ys) (omega (arith, l))))

-- what the first writes and then the further ones leave stays under both
others-then : (old mid new : Told) (all more : List NamedBytes) → OthersStay old mid all → OthersStay mid new more → OthersStay old new (all ++ more)
others-then None None new all more h k = k
others-then None (Some m) new all more h k = absurd (search (rules, h))
others-then (Some f) None new all more h k = absurd h
others-then (Some f) (Some m) None all more h k = absurd k
others-then (Some f) (Some m) (Some n) all more h k =
    λ other apart. k other (all-right (λ w. other ≢ w.name) all more apart) ∙ h other (all-left (λ w. other ≢ w.name) all more apart)

others-same : (told : Told) (all : List NamedBytes) → OthersStay told told all
others-same None all = refl
others-same (Some files) all = λ other apart. refl

others-one : (old new : Told) (write : NamedBytes) → OthersStayBut old new write.name → OthersStay old new (write ∷ [])
others-one None new write h = h
others-one (Some f) None write h = h
others-one (Some f) (Some n) write h = λ other apart. h other (apart 0 write (omega arith))

-- no write at all
pub wrote-none : (files : FilesView) → WroteAll [] files files
wrote-none files = record {
  touches = record { answered = refl; reads = refl; others = others-same files.told [] };
  held = hold-none files.told;
  wrote = sym (append-nil files.wrote);
  faults = refl;
}

touches-then : (all more : List NamedBytes) (old mid new : FilesView) → TouchesOnly all old mid → TouchesOnly more mid new → TouchesOnly (all ++ more) old new
touches-then all more old mid new h k = record {
  answered = k.answered ∙ h.answered;
  reads = k.reads ∙ h.reads;
  others = others-then old.told mid.told new.told all more h.others k.others;
}

pub wrote-then : (all more : List NamedBytes) (old mid new : FilesView) → WroteAll all old mid → WroteAll more mid new → WroteAll (all ++ more) old new
wrote-then all more old mid new h k = record {
  touches = touches-then all more old mid new h.touches k.touches;
  held = hold-then old.told mid.told new.told all more h.touches.others h.held k.held;
  wrote = k.wrote ∙ ap (λ log. log ++ more) h.wrote ∙ append_assoc old.wrote all more;
  faults = k.faults ∙ h.faults;
}

-- the end of further writes behind writes that were made
pub ends-then : (all more : List NamedBytes) (old mid new : FilesView) (r : Result (Unit {0}) OutputFault) → WroteAll all old mid → FilesEnd more mid new r → FilesEnd (all ++ more) old new r
ends-then all more old mid new (Ok u) h k = wrote-then all more old mid new h k
ends-then all more old mid new (Err WriteFault) h k = record {
  front = all ++ k.front;
  failed = k.failed;
  later = k.later;
  of_all = ap (λ w. all ++ w) k.of_all ∙ sym (append_assoc all k.front (k.failed ∷ k.later));
  mid = k.mid;
  wrote = wrote-then all k.front old mid k.mid h k.wrote;
  fails = k.fails;
}
ends-then all more old mid new (Err NoMemory) h k = record {
  front = all ++ k.front;
  rest = k.rest;
  of_all = ap (λ w. all ++ w) k.of_all ∙ sym (append_assoc all k.front k.rest);
  wrote = wrote-then all k.front old mid new h k.wrote;
}

-- a fault of the first writes is one of all
pub fault-first : (all more : List NamedBytes) (old new : FilesView) (fault : OutputFault) → FilesEnd all old new (Err fault) → FilesEnd (all ++ more) old new (Err fault)
fault-first all more old new WriteFault h = record {
  front = h.front;
  failed = h.failed;
  later = h.later ++ more;
  of_all = ap (λ w. w ++ more) h.of_all ∙ append_assoc h.front (h.failed ∷ h.later) more;
  mid = h.mid;
  wrote = h.wrote;
  fails = h.fails;
}
fault-first all more old new NoMemory h = record {
  front = h.front;
  rest = h.rest ++ more;
  of_all = ap (λ w. w ++ more) h.of_all ∙ append_assoc h.front h.rest more;
  wrote = h.wrote;
}

-- all writes were made, and none is left
pub ends-nothing : (all : List NamedBytes) (old new : FilesView) → WroteAll all old new → WroteFront all old new
ends-nothing all old new h = record { front = all; rest = []; of_all = sym (append-nil all); wrote = h }

-- one write answered
pub wrote-one : (write : NamedBytes) (old new : FilesView) → new.answered ≡ old.answered → new.reads ≡ old.reads → OthersStayBut old.told new.told write.name
    → IfSome new.told (λ files. files write.name ≡ Some write.bytes) → new.wrote ≡ old.wrote ++ write ∷ [] → new.writes ≡ old.writes → WroteAll (write ∷ []) old new
wrote-one write old new answered reads others holds wrote faults = record {
  touches = record { answered = answered; reads = reads; others = others-one old.told new.told write others };
  held = hold-one old.told new.told write others holds;
  wrote = wrote;
  faults = faults;
}

-- memory was wanting for it: the files are as they were
pub front-nothing : (write : NamedBytes) (old new : FilesView) → new.answered ≡ old.answered → new.reads ≡ old.reads → new.told ≡ old.told
    → new.wrote ≡ old.wrote → new.writes ≡ old.writes → WroteFront (write ∷ []) old new
front-nothing write old new answered reads told wrote faults = record {
  front = [];
  rest = write ∷ [];
  of_all = refl;
  wrote = record {
    touches = record { answered = answered; reads = reads; others = subst (λ t. OthersStay old.told t []) (sym told) (others-same old.told []) };
    held = subst (λ t. HoldWritten old.told t []) (sym told) (hold-none old.told);
    wrote = wrote ∙ sym (append-nil old.wrote);
    faults = faults;
  };
}

-- it failed
pub fails-first : (write : NamedBytes) (old new : FilesView) → WriteFailed write old new → FailedAt (write ∷ []) old new
fails-first write old new h = record { front = []; failed = write; later = []; of_all = refl; mid = old; wrote = wrote-none old; fails = h }

-- nothing at all was written
pub front-same : (all : List NamedBytes) (files : FilesView) → WroteFront all files files
front-same all files = record { front = []; rest = all; of_all = refl; wrote = wrote-none files }

-- one more of these writes
pub saves-more : {X : Type 0} (f : X → NamedBytes) (xs : List X) (i : ℕ) (x : X) → i < length xs → x ≡ get_or xs i x → map f (take (i + 1) xs) ≡ map f (take i xs) ++ f x ∷ []
saves-more f xs i x l is = map_more f xs i x l ∙ ap (λ y. map f (take i xs) ++ f y ∷ []) (sym is)

-- the first one that fails
pub saves-fault : {X : Type 0} (f : X → NamedBytes) (xs : List X) (i : ℕ) (x : X) (old mid new : FilesView) (fault : OutputFault) → i < length xs → x ≡ get_or xs i x
    → WroteAll (map f (take i xs)) old mid → FilesEnd (f x ∷ []) mid new (Err fault) → FilesEnd (map f xs) old new (Err fault)
saves-fault f xs i x old mid new fault l is done failed =
    let rest = map f (drop (i + 1) xs) in
    let split : map f xs ≡ (map f (take i xs) ++ f x ∷ []) ++ rest =
    ap (map f) (sym (take-append-drop (i + 1) xs)) ∙ map-append f (take (i + 1) xs) (drop (i + 1) xs) ∙ ap (λ front. front ++ rest) (saves-more f xs i x l is) in
    subst (λ all. FilesEnd all old new (Err fault)) (sym split) (fault-first (map f (take i xs) ++ f x ∷ []) rest old new fault (ends-then (map f (take i xs)) (f x ∷ []) old mid new (Err fault) done failed))

-- nothing is put out where the writes end with a fault
pub output-fault : (all : List NamedBytes) (text : List ℕ) (old new : FilesView) (sink : SinkView) (fault : OutputFault) → FilesEnd all old new (Err fault) → OutputEnds all text old new sink sink (Err fault)
output-fault all text old new sink WriteFault h = inl (h, refl)
output-fault all text old new sink NoMemory h = (h, refl)

-- the put of a text behind writes that were made
pub output-then : (all : List NamedBytes) (text : List ℕ) (old new : FilesView) (sink sink' : SinkView) (r : Result (Unit {0}) OutputFault) → WroteAll all old new → TextEnds text sink sink' r
    → OutputEnds all text old new sink sink' r
output-then all text old new sink sink' (Ok u) h k = (h, k)
output-then all text old new sink sink' (Err WriteFault) h k = inr (h, k)
output-then all text old new sink sink' (Err NoMemory) h k = (ends-nothing all old new h, k)
