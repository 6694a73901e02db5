-- The files of the steps, as far as they were read.
use Rattle.std.proofs.Common.{inl, inr, ◌≡◌, ℕ, suc, ◌+◌, ◌<◌, List, [], ◌∷◌, ◌++◌, length, map, take, drop, get_or, Option, Some, None, Result, Ok, Err, refl, sym, ap, subst, ◌∙◌, append-nil, append_assoc, length-append, add-one, arith}
use Rattle.std.proofs.Math.Seq.{drop-cons, take-suc}
use Rattle.std.specs.Prelude.{IfSome, IsSomeAnd, IfErr}
use Rattle.std.specs.Result.{IsErrAnd}
use Rattle.std.proofs.lemmas.List.{map-append, take-append-drop}
use Rattle.std.proofs.lemmas.List.Elements.{filter_map-append}
use Rattle.std.proofs.lemmas.List.Sums.{sum_by-append}
use Rattle.outside.specs.Causes.{Told, Rose}
use Rattle.script_plan.specs.declared.step.Step.{Step}
use Rattle.program_io.specs.declared.fault.InputFault.{InputFault}
use Rattle.program_io.specs.declared.fault.InputFault.TheVariants.{Script, ReadFault, Limit, NoMemory}
use Rattle.program_io.specs.Files.{FilesView, NothingWritten, HasRead, IsUnread, ReadEnds}
use Rattle.script_input.specs.Contents.{file_of, file_names, named, total, HaveAnswered, HaveRead, SomeRead, FilesEnd}

-- ---- lists

names-more : (done : List Step) (step : Step) (name : List ℕ) → file_of step.act ≡ Some name → file_names (done ++ step ∷ []) ≡ file_names done ++ name ∷ []
names-more done step name e = filter_map-append (λ s. file_of s.act) done (step ∷ []) ∙ ap (λ more. file_names done ++ more) (one step name e)
  where
    one : (step : Step) (name : List ℕ) → file_of step.act ≡ Some name → file_names (step ∷ []) ≡ name ∷ []
    one step name e = rw e refl

names-same : (done : List Step) (step : Step) → file_of step.act ≡ None → file_names (done ++ step ∷ []) ≡ file_names done
names-same done step e = filter_map-append (λ s. file_of s.act) done (step ∷ []) ∙ ap (λ more. file_names done ++ more) (none step e) ∙ append-nil (file_names done)
  where
    none : (step : Step) → file_of step.act ≡ None → file_names (step ∷ []) ≡ []
    none step e = rw e refl

pub named-more : (names contents : List (List ℕ)) (name bytes : List ℕ) → length contents ≡ length names
    → named (names ++ name ∷ []) (contents ++ bytes ∷ []) ≡ named names contents ++ record { name = name; bytes = bytes } ∷ []
named-more [] [] name bytes e = refl
named-more [] (c ∷ contents) name bytes e = absurd (omega arith)
named-more (n ∷ names) [] name bytes e = absurd (omega arith)
named-more (n ∷ names) (c ∷ contents) name bytes e = ap (λ rest. record { name = n; bytes = c } ∷ rest) (named-more names contents name bytes (omega arith))

pub total-more : (contents : List (List ℕ)) (bytes : List ℕ) → total (contents ++ bytes ∷ []) ≡ total contents + length bytes
total-more contents bytes = omega (arith, sum_by-append (λ (c : List ℕ). length c) contents (bytes ∷ []))

-- ---- steps

no-bytes-held : (told : Told) → IfSome told (λ files. map files [] ≡ map Some [])
no-bytes-held None = tt
no-bytes-held (Some files) = refl

pub none-read : (v : FilesView) → HaveRead v v [] []
none-read v = record { answer = record { many = refl; answered = sym (append-nil v.answered); held = no-bytes-held v.told; fits = omega arith }; reads = refl }

answered-past : (before after : FilesView) (done : List Step) (step : Step) (contents : List (List ℕ)) → HaveAnswered before after done contents → file_of step.act ≡ None
    → HaveAnswered before after (done ++ step ∷ []) contents
answered-past before after done step contents h e =
    let same = names-same done step e in
    record {
      many = rw same h.many;
      answered = rw same h.answered;
      held = rw same h.held;
      fits = h.fits;
    }

-- a step that sends no file
pub read-past : (before after : FilesView) (done : List Step) (step : Step) (contents : List (List ℕ)) → HaveRead before after done contents → file_of step.act ≡ None
    → HaveRead before after (done ++ step ∷ []) contents
read-past before after done step contents h e = record { answer = answered-past before after done step contents h.answer e; reads = h.reads }

held-more : (told told' : Told) (names contents : List (List ℕ)) (name bytes : List ℕ) → told' ≡ told → IfSome told (λ files. map files names ≡ map Some contents)
    → IfSome told' (λ files. files name ≡ Some bytes) → IfSome told (λ files. map files (names ++ name ∷ []) ≡ map Some (contents ++ bytes ∷ []))
held-more None told' names contents name bytes e h one = tt
held-more (Some files) told' names contents name bytes e h one =
    let here : files name ≡ Some bytes = subst (λ told. IfSome told (λ files. files name ≡ Some bytes)) e one in
    map-append files names (name ∷ []) ∙ ap (λ front. front ++ files name ∷ []) h ∙ ap (λ last. map Some contents ++ last ∷ []) here ∙ sym (map-append Some contents (bytes ∷ []))

-- a step whose file was read
pub read-more : (before mid after : FilesView) (done : List Step) (step : Step) (contents : List (List ℕ)) (name bytes : List ℕ) (left : ℕ) → HaveRead before mid done contents
    → HasRead left mid after name bytes → mid.told ≡ before.told → left + total contents ≡ 33554432 → file_of step.act ≡ Some name
    → HaveRead before after (done ++ step ∷ []) (contents ++ bytes ∷ [])
read-more before mid after done step contents name bytes left h one told sum e =
    let names = names-more done step name e in
    record {
      answer = record {
        many = rw names (length-append contents (bytes ∷ []) ∙ ap (λ n. n + 1) h.answer.many ∙ sym (length-append (file_names done) (name ∷ [])));
        answered = rw names (one.answered ∙ ap (λ log. log ++ record { name = name; bytes = bytes } ∷ []) h.answer.answered
            ∙ append_assoc before.answered (named (file_names done) contents) (record { name = name; bytes = bytes } ∷ [])
            ∙ ap (λ log. before.answered ++ log) (sym (named-more (file_names done) contents name bytes h.answer.many)));
        held = rw names (held-more before.told mid.told (file_names done) contents name bytes told h.answer.held one.held);
        fits = omega (arith, total-more contents bytes, one.fits);
      };
      reads = one.reads ∙ h.reads;
    }

-- nothing was written on the way
pub none-written : (v : FilesView) → NothingWritten v v
none-written v = record { told = refl; wrote = refl; writes = refl }

pub still-unwritten : (before mid after : FilesView) → NothingWritten before mid → NothingWritten mid after → NothingWritten before after
still-unwritten before mid after h g = record { told = g.told ∙ h.told; wrote = g.wrote ∙ h.wrote; writes = g.writes ∙ h.writes }

-- ---- faults

unread-since : (before mid after : FilesView) (name : List ℕ) → mid.reads ≡ before.reads → mid.told ≡ before.told → IsUnread mid after name → IsUnread before after name
unread-since before mid after name reads told (inl rose) = inl (subst (λ n. Rose n after.reads) reads rose)
unread-since before mid after name reads told (inr missing) = inr (missing.0 ∙ reads, subst (λ t. IsSomeAnd t (λ files. files name ≡ None)) told missing.1)

longer : (left : ℕ) (told told' : Told) (contents : List (List ℕ)) (name : List ℕ) → told' ≡ told → left + total contents ≡ 33554432
    → IfSome told' (λ told. IsSomeAnd (told name) (λ bytes. left < length bytes))
    → IfSome told (λ told. IsSomeAnd (told name) (λ bytes. 33554432 < total contents + length bytes))
longer left told told' contents name e sum over = past told (subst (λ t. IfSome t (λ told. IsSomeAnd (told name) (λ bytes. left < length bytes))) e over)
  where
    more : (held : Option (List ℕ)) → IsSomeAnd held (λ bytes. left < length bytes) → IsSomeAnd held (λ bytes. 33554432 < total contents + length bytes)
    more None h = absurd h
    more (Some bytes) h = omega (arith, sum)

    past : (told : Told) → IfSome told (λ told. IsSomeAnd (told name) (λ bytes. left < length bytes)) → IfSome told (λ told. IsSomeAnd (told name) (λ bytes. 33554432 < total contents + length bytes))
    past None h = tt
    past (Some files) h = more (files name) h

pub split-at : (steps : List Step) (i : ℕ) (step : Step) → i < length steps → step ≡ get_or steps i step → steps ≡ take i steps ++ step ∷ drop (suc i) steps
split-at steps i step lt e =
    sym (take-append-drop i steps) ∙ ap (λ rest. take i steps ++ rest) (drop-cons steps i step lt) ∙ ap (λ (s : Step). take i steps ++ s ∷ drop (suc i) steps) (sym e)

pub take-one-more : (steps : List Step) (i : ℕ) (step : Step) → i < length steps → step ≡ get_or steps i step → take (i + 1) steps ≡ take i steps ++ step ∷ []
take-one-more steps i step lt e = ap (λ n. take n steps) (add-one i) ∙ take-suc steps i step lt ∙ ap (λ (s : Step). take i steps ++ s ∷ []) (sym e)

-- the file of this step wasn't read
pub file-ends : (steps : List Step) (i : ℕ) (before mid after : FilesView) (step : Step) (contents : List (List ℕ)) (name : List ℕ) (left : ℕ) (fault : InputFault)
    → i < length steps → step ≡ get_or steps i step → HaveRead before mid (take i steps) contents → mid.told ≡ before.told → left + total contents ≡ 33554432 → file_of step.act ≡ Some name
    → ReadEnds step.line left mid after name fault → FilesEnd steps before after fault
file-ends steps i before mid after step contents name left (Script fault) lt at h told sum e ends = absurd ends
file-ends steps i before mid after step contents name left (ReadFault line) lt at h told sum e ends = record {
  name = name;
  contents = contents;
  stops = record {
    done = take i steps;
    step = step;
    rest = drop (suc i) steps;
    split = split-at steps i step lt at;
    line_is = ends.0;
    names = e;
    read = record { many = h.answer.many; answered = ends.1 ∙ h.answer.answered; held = h.answer.held; fits = h.answer.fits };
  };
  unread = unread-since before mid after name h.reads told ends.2;
}
file-ends steps i before mid after step contents name left (Limit line) lt at h told sum e ends = record {
  name = name;
  contents = contents;
  stops = record {
    done = take i steps;
    step = step;
    rest = drop (suc i) steps;
    split = split-at steps i step lt at;
    line_is = ends.0;
    names = e;
    read = record { many = h.answer.many; answered = ends.1.answered ∙ h.answer.answered; held = h.answer.held; fits = h.answer.fits };
  };
  reads = ends.1.reads ∙ h.reads;
  over = longer left before.told mid.told contents name told sum ends.2;
}
file-ends steps i before mid after step contents name left NoMemory lt at h told sum e ends = record {
  done = take i steps;
  rest = drop i steps;
  contents = contents;
  split = sym (take-append-drop i steps);
  read = record {
    answer = record { many = h.answer.many; answered = ends.answered ∙ h.answer.answered; held = h.answer.held; fits = h.answer.fits };
    reads = ends.reads ∙ h.reads;
  };
}

-- memory was wanting behind the read of this step's file
pub some-read : (steps : List Step) (i : ℕ) (before after : FilesView) (contents : List (List ℕ)) → HaveRead before after (take i steps) contents → SomeRead steps before after
some-read steps i before after contents h = record { done = take i steps; rest = drop i steps; contents = contents; split = sym (take-append-drop i steps); read = h }

-- so is then the answer that tells it
pub told-ends : {A : Type 0} (r : Result A InputFault) (fault : InputFault) (steps : List Step) (before after : FilesView) → IsErrAnd r (λ f. f ≡ fault) → FilesEnd steps before after fault
    → IfErr r (FilesEnd steps before after)
told-ends (Ok x) fault steps before after e h = absurd e
told-ends (Err f) fault steps before after e h = rw e h

pub none-done : (steps : List Step) (v : FilesView) → SomeRead steps v v
none-done steps v = record { done = []; rest = steps; contents = []; split = refl; read = none-read v }

pub all-done : (steps steps' : List Step) (before after : FilesView) (contents : List (List ℕ)) → HaveRead before after steps' contents → steps' ≡ steps → SomeRead steps before after
all-done steps steps' before after contents h e = record { done = steps'; rest = []; contents = contents; split = sym e ∙ sym (append-nil steps'); read = h }
