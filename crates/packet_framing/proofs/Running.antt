-- An unframer in the midst of a run of chunks.
use Rattle.std.proofs.Common.{◌≡◌, ℕ, ◌+◌, ◌<◌, List, [], ◌∷◌, ◌++◌, length, take, drop, get_or, Option, None, sym, ◌∙◌, ap, subst, append_assoc}
use Rattle.std.specs.List.{concat}
use Rattle.std.proofs.lemmas.List.{take_more, drop_more, take-append-drop}
use Rattle.std.proofs.lemmas.List.Folds.{concat-append}
use Rattle.io_vector.proofs.Segments.{concat-push}
use Rattle.packet_framing.specs.declared.mode.Mode.{Mode}
use Rattle.packet_framing.specs.declared.message.Message.{Message}
use Rattle.packet_framing.specs.declared.fault.UnframeFault.{UnframeFault}
use Rattle.packet_framing.specs.declared.fault.UnframeFault.TheVariants.{Oversize, NoMemory}
use Rattle.packet_framing.specs.Messages.{IsServed, rest_of}
use Rattle.packet_framing.specs.Unframed.{Unframed, Unframes, HasOversize, RefusesFor, FeedFails, RunFails, fresh}
use Rattle.packet_framing.proofs.Laws.{one_more, one_more_refused, stays_refused, rest_is}

-- these chunks were fed, and told as these messages
pub record IsRunning (mode : Mode) (chunks : List (List ℕ)) (u : Unframed) (ms : List Message) : Type 0 where
  pub served : IsServed mode
  pub same : u.mode ≡ mode
  pub open' : u.oversize ≡ None
  pub told : Unframes mode (concat chunks) ms u.held

-- a chunk that was refused refuses the whole run
pub run_fails : (mode : Mode) (chunks : List (List ℕ)) (i : ℕ) (chunk : List ℕ) (u v : Unframed) (ms : List Message) (fault : UnframeFault) →
    i < length chunks → chunk ≡ get_or chunks i [] → IsRunning mode (take i chunks) u ms → FeedFails u chunk v fault →
    RunFails mode (concat chunks) fault
run_fails mode chunks i chunk u v ms NoMemory there is running fails = tt
run_fails mode chunks i chunk u v ms (Oversize len) there is running fails =
    let all : concat chunks ≡ (concat (take i chunks) ++ chunk) ++ concat (drop (i + 1) chunks) =
    ap concat (sym (take-append-drop i chunks)) ∙ concat-append (take i chunks) (drop i chunks)
    ∙ ap (λ (xs : List (List ℕ)). concat (take i chunks) ++ concat xs) (drop_more chunks i [] there)
    ∙ ap (λ x. concat (take i chunks) ++ (x ++ concat (drop (i + 1) chunks))) (sym is)
    ∙ sym (append_assoc (concat (take i chunks)) chunk (concat (drop (i + 1) chunks))) in
    let P : Option ℕ → Type 0 = λ o. RefusesFor o u.mode (u.held ++ chunk) len in
    let Q : Mode → Type 0 = λ m. HasOversize m (u.held ++ chunk) len in
    let here : HasOversize mode (u.held ++ chunk) len = subst Q running.same (subst P running.open' fails.0) in
    let R : List ℕ → Type 0 = λ bytes. HasOversize mode bytes len in
    subst R (sym all) (stays_refused mode (concat (take i chunks) ++ chunk) (concat (drop (i + 1) chunks)) len
    (one_more_refused mode (concat (take i chunks)) chunk ms u.held len running.told here))

-- a chunk that was told
pub running_more : (mode : Mode) (chunks : List (List ℕ)) (i : ℕ) (chunk : List ℕ) (u v : Unframed) (ms ns all : List Message) →
    i < length chunks → chunk ≡ get_or chunks i [] → IsRunning mode (take i chunks) u ms → Unframes u.mode (u.held ++ chunk) ns v.held →
    v ≡ record u { held = rest_of u.mode (u.held ++ chunk) } → all ≡ ms ++ ns → IsRunning mode (take (i + 1) chunks) v all
running_more mode chunks i chunk u v ms ns all there is running told new joined =
    let P : Mode → Type 0 = λ m. Unframes m (u.held ++ chunk) ns v.held in
    let next : Unframes mode (u.held ++ chunk) ns v.held = subst P running.same told in
    let more : Unframes mode (concat (take i chunks) ++ chunk) (ms ++ ns) v.held =
    one_more mode running.served (concat (take i chunks)) chunk ms ns u.held v.held running.told next in
    let bytes : concat (take (i + 1) chunks) ≡ concat (take i chunks) ++ chunk =
    ap concat (take_more chunks i [] there) ∙ ap (λ x. concat (take i chunks ++ x ∷ [])) (sym is) ∙ concat-push (take i chunks) chunk in
    let Q : List ℕ → Type 0 = λ xs. Unframes mode xs (ms ++ ns) v.held in
    let R : List Message → Type 0 = λ xs. Unframes mode (concat (take (i + 1) chunks)) xs v.held in
    record {
      served = running.served;
      same = ap (λ (w : Unframed). w.mode) new ∙ running.same;
      open' = ap (λ (w : Unframed). w.oversize) new ∙ running.open';
      told = subst R (sym joined) (subst Q (sym bytes) more);
    }

abbrev unframed : Mode → List ℕ → Option ℕ → Unframed
unframed mode held oversize = record { mode = mode; held = held; oversize = oversize }

-- an unframer that was told of these chunks is fresh but for the rest of their bytes, which it holds
pub running_holds : (mode : Mode) (chunks : List (List ℕ)) (u : Unframed) (ms : List Message) → IsRunning mode chunks u ms →
    u ≡ record (fresh mode) { held = rest_of mode (concat chunks) }
running_holds mode chunks u ms running =
    ap (λ m. unframed m u.held u.oversize) running.same
    ∙ (ap (λ held. unframed mode held u.oversize) (rest_is mode (concat chunks) ms u.held running.told)
    ∙ ap (λ oversize. unframed mode (rest_of mode (concat chunks)) oversize) running.open')
