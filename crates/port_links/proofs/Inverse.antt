-- The slab and its index stay the inverses of each other.
use Rattle.std.proofs.Common.{◌≡◌, ◌≢◌, ℕ, ◌+◌, List, [], ◌∷◌, Bool, true, false, eqb, cond, refl, sym, ap, ◌∙◌, subst, Option, Some, None, get_or, zero, suc}
use Rattle.std.specs.Map.{lookup}
use Rattle.std.specs.BTreeMap.{is_at}
use Rattle.std.proofs.lemmas.Bool.{false≢true, eqb-true, eqb-false}
use Rattle.std.proofs.lemmas.Map.Entries.{option_filter, lookup-filter-keys}
use Rattle.std.specs.List.{filter}
use Rattle.slab.specs.Slab.{CalledAt, RetainsFrom}
use Rattle.std.specs.Borrow.{MutBor}
use Rattle.port_history.specs.port_model.port_signal.declared.monitor.Monitor.{Monitor}
use Rattle.port_links.specs.Indexed.{monitor_cmp, Invert}
use Rattle.port_links.proofs.MonitorOrder.{equal-monitors, is-itself}

some-same : {X : Type 0} (x y : X) → Some x ≡ Some y → x ≡ y
some-same x y e = cc

none-some : {X : Type 0} (x : X) → None ≡ Some x → ⊥
none-some x e = cc

-- a monitor that has no key yet gets one that is vacant
pub invert-insert : (held held' : ℕ → Option Monitor) (keys keys' : Monitor → Option ℕ) (m : Monitor) (k : ℕ) → Invert held keys
    → keys m ≡ None → held k ≡ None
    → ((q : Monitor) → keys' q ≡ cond (is_at (monitor_cmp m) q) (Some k) (keys q))
    → held' k ≡ Some m → ((other : ℕ) → other ≢ k → held' other ≡ held other) → Invert held' keys'
invert-insert held held' keys keys' m k old absent vacant told here others = record { kept = kept; found = found } where
  kept : (q : Monitor) (key : ℕ) → keys' q ≡ Some key → held' key ≡ Some q
  kept q key e = by_test (is_at (monitor_cmp m) q) refl (sym (told q) ∙ e) where
    by_test : (b : Bool) → is_at (monitor_cmp m) q ≡ b → cond b (Some k) (keys q) ≡ Some key → held' key ≡ Some q
    by_test true at e = ap held' (sym (some-same k key e)) ∙ (here ∙ ap (λ x. Some x) (equal-monitors m q at))
    by_test false at e =
        others key (λ same. none-some q (sym vacant ∙ (ap held (sym same) ∙ old.kept q key e))) ∙ old.kept q key e

  found : (q : Monitor) (key : ℕ) → held' key ≡ Some q → keys' q ≡ Some key
  found q key e = by_key (eqb key k) refl where
    by_key : (b : Bool) → eqb key k ≡ b → keys' q ≡ Some key
    by_key true at =
        let same : key ≡ k = eqb-true key k at in
        let monitor : m ≡ q = some-same m q (sym here ∙ (ap held' (sym same) ∙ e)) in
        told q ∙ (rw (ap (λ x. is_at (monitor_cmp m) x) (sym monitor) ∙ is-itself m) (ap (λ x. Some x) (sym same)))
    by_key false at =
        let before : keys q ≡ Some key = old.found q key (sym (others key (eqb-false key k at)) ∙ e) in
        told q ∙ by_test (is_at (monitor_cmp m) q) refl before where
          by_test : (b : Bool) → is_at (monitor_cmp m) q ≡ b → keys q ≡ Some key → cond b (Some k) (keys q) ≡ Some key
          by_test true at before = absurd (none-some key (sym absent ∙ (ap keys (equal-monitors m q at) ∙ before)))
          by_test false at before = before

-- a monitor and its key go
pub invert-remove : (held held' : ℕ → Option Monitor) (keys keys' : Monitor → Option ℕ) (m : Monitor) (k : ℕ) → Invert held keys
    → keys m ≡ Some k
    → ((q : Monitor) → keys' q ≡ cond (is_at (monitor_cmp m) q) None (keys q))
    → held' k ≡ None → ((other : ℕ) → other ≢ k → held' other ≡ held other) → Invert held' keys'
invert-remove held held' keys keys' m k old there told gone others = record { kept = kept; found = found } where
  kept : (q : Monitor) (key : ℕ) → keys' q ≡ Some key → held' key ≡ Some q
  kept q key e = by_test (is_at (monitor_cmp m) q) refl (sym (told q) ∙ e) where
    by_test : (b : Bool) → is_at (monitor_cmp m) q ≡ b → cond b None (keys q) ≡ Some key → held' key ≡ Some q
    by_test true at e = absurd (none-some key e)
    by_test false at e =
        others key (λ same. apart (some-same m q (sym (old.kept m k there) ∙ (ap held (sym same) ∙ old.kept q key e)))) ∙ old.kept q key e where
          apart : m ≡ q → ⊥
          apart same = false≢true (sym at ∙ (ap (λ x. is_at (monitor_cmp m) x) (sym same) ∙ is-itself m))

  found : (q : Monitor) (key : ℕ) → held' key ≡ Some q → keys' q ≡ Some key
  found q key e = by_key (eqb key k) refl where
    by_key : (b : Bool) → eqb key k ≡ b → keys' q ≡ Some key
    by_key true at = absurd (none-some q (sym gone ∙ (ap held' (sym (eqb-true key k at)) ∙ e)))
    by_key false at =
        let before : keys q ≡ Some key = old.found q key (sym (others key (eqb-false key k at)) ∙ e) in
        told q ∙ by_test (is_at (monitor_cmp m) q) refl before where
          by_test : (b : Bool) → is_at (monitor_cmp m) q ≡ b → keys q ≡ Some key → cond b None (keys q) ≡ Some key
          by_test true same before =
              absurd (eqb-false key k at (sym (some-same k key (sym there ∙ (ap keys (equal-monitors m q same) ∙ before)))))
          by_test false same before = before

-- only the monitors that pass a test stay
pub invert-filter : (test : Monitor → Bool) (held held' : ℕ → Option Monitor) (keys keys' : Monitor → Option ℕ) → Invert held keys
    → ((q : Monitor) → keys' q ≡ cond (test q) (keys q) None)
    → ((key : ℕ) → held' key ≡ option_filter test (held key)) → Invert held' keys'
invert-filter test held held' keys keys' old told stay = record { kept = kept; found = found } where
  kept : (q : Monitor) (key : ℕ) → keys' q ≡ Some key → held' key ≡ Some q
  kept q key e = by_test (test q) refl (sym (told q) ∙ e) where
    by_test : (b : Bool) → test q ≡ b → cond b (keys q) None ≡ Some key → held' key ≡ Some q
    by_test true passes e = stay key ∙ rw (old.kept q key e, passes) refl
    by_test false passes e = absurd (none-some key e)

  found : (q : Monitor) (key : ℕ) → held' key ≡ Some q → keys' q ≡ Some key
  found q key e = by_held (held key) refl (sym (stay key) ∙ e) where
    by_held : (o : Option Monitor) → held key ≡ o → option_filter test o ≡ Some q → keys' q ≡ Some key
    by_held None was e = absurd (none-some q e)
    by_held (Some m) was e = by_test (test m) refl e where
      by_test : (b : Bool) → test m ≡ b → cond b (Some m) None ≡ Some q → keys' q ≡ Some key
      by_test true passes e =
          let same : m ≡ q = some-same m q e in
          told q ∙ rw (ap test (sym same) ∙ passes) (old.found q key (was ∙ e))
      by_test false passes e = absurd (none-some q e)

-- what the index tells after a test of its monitors
pub keys-filter : (test : Monitor → Bool) (es left : List (Monitor × ℕ)) → left ≡ filter (λ e. test e.0) es
    → (q : Monitor) → lookup (is_at (monitor_cmp q)) left ≡ cond (test q) (lookup (is_at (monitor_cmp q)) es) None
keys-filter test es left e q =
    rw e (lookup-filter-keys (is_at (monitor_cmp q)) test (test q) (λ m at. ap test (sym (equal-monitors q m at))) es)

-- what the slab has after a closure that only tests, and stays as it was
pub held-filter : {F : Type 0} (step : F → ℕ → MutBor Monitor → Bool → MutBor Monitor → F → Type 0) (test : Monitor → Bool) (f : F)
    → ((key : ℕ) (old : Monitor) (keep : Bool) (new : Monitor) (next : F) → CalledAt step f key old keep new next → (keep ≡ test old) × (new ≡ old) × (next ≡ f))
    → (first : ℕ) (slots left : List (Option Monitor)) → RetainsFrom step f first slots left
    → (key : ℕ) → get_or left key None ≡ option_filter test (get_or slots key None)
held-filter step test f says first [] left r key = ap (λ xs. get_or xs key None) r
held-filter step test f says first (None ∷ slots) left r zero = ap (λ xs. get_or xs zero None) r.1
held-filter step test f says first (None ∷ slots) left r (suc key) =
    ap (λ xs. get_or xs (suc key) None) r.1 ∙ held-filter step test f says (first + 1) slots r.0 r.2 key
held-filter step test f says first (Some old ∷ slots) left r zero =
    let said = says first old r.0 r.1 r.2 r.3 in
    ap (λ xs. get_or xs zero None) r.5 ∙ (ap (λ b. cond b (Some r.1) None) said.0 ∙ ap (λ x. cond (test old) (Some x) None) said.1)
held-filter step test f says first (Some old ∷ slots) left r (suc key) =
    let said = says first old r.0 r.1 r.2 r.3 in
    ap (λ xs. get_or xs (suc key) None) r.5 ∙ held-filter step test f says (first + 1) slots r.4 (subst (λ g. RetainsFrom step g (first + 1) slots r.4) said.2 r.6) key
