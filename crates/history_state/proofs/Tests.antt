-- Tests joined by what is known of their parts.
use Rattle.std.proofs.Common.{◌≡◌, ℕ, ◌<◌, ◌≤◌, Bool, true, false, ◌||◌, ◌&&◌, not, Option, None, is_some, List, refl, sym, ap, arith}
use Rattle.std.specs.Prelude.{nat_le, if◌then◌else◌}
use Rattle.std.proofs.lemmas.Bool.{lt-leb, le-leb}

-- a task that waits while the port is busy
pub not-busy : (w b : Bool) → b ≡ false → true ≡ not (w && b)
not-busy true b e = sym (ap not e)
not-busy false b e = refl

pub busy : (w b : Bool) → b ≡ true → not w ≡ not (w && b)
busy true b e = sym (ap not e)
busy false b e = refl

-- a task that may be listed
pub listed-before : (h l u : Bool) → h ≡ true → false ≡ ((not h && l) && not u)
listed-before h l u e = rw e refl

pub has-row : (h u : Bool) (n m seq : ℕ) → n ≡ m → seq < n → false ≡ ((h && nat_le m seq) && u)
has-row true u n m seq e less = rw (lt-leb m seq (omega arith)) refl
has-row false u n m seq e less = refl

pub may-list : (h u : Bool) (n m seq : ℕ) → h ≡ false → n ≡ m → n ≤ seq → not u ≡ ((not h && nat_le m seq) && not u)
may-list h u n m seq none e below = rw (none, le-leb m seq (omega arith)) refl

-- a sender that may be resumed
pub not-first : (f x : Bool) → f ≡ false → false ≡ (f && x)
not-first f x e = rw e refl

pub first-of-closed : (f o x : Bool) → f ≡ true → o ≡ false → true ≡ (f && (not o || x))
first-of-closed f o x e g = rw (e, g) refl

pub first-of-busy : (f o b q : Bool) → f ≡ true → o ≡ true → b ≡ true → false ≡ (f && (not o || not (b || q)))
first-of-busy f o b q e g h = rw (e, g, h) refl

pub first-of-free : (f o b q : Bool) → f ≡ true → o ≡ true → b ≡ false → not q ≡ (f && (not o || not (b || q)))
first-of-free f o b q e g h = rw (e, g, h) refl

-- a result that is told in time
pub not-submitted : (u t h : Bool) → u ≡ false → not h ≡ (if u && not t then h else not h)
not-submitted u t h e = rw e refl

pub not-running : (u t h : Bool) → u ≡ true → t ≡ true → not h ≡ (if u && not t then h else not h)
not-running u t h e f = rw (e, f) refl

pub in-time : (u t h : Bool) → u ≡ true → t ≡ false → h ≡ (if u && not t then h else not h)
in-time u t h e f = rw (e, f) refl

-- a result that is told as it is to be
pub told-before : (d t w n : Bool) → d ≡ true → false ≡ (((not d && t) && w) && n)
told-before d t w n e = rw e refl

pub not-in-time : (d t w n : Bool) → d ≡ false → t ≡ false → false ≡ (((not d && t) && w) && n)
not-in-time d t w n e f = rw (e, f) refl

pub no-work : (d t w n : Bool) → d ≡ false → t ≡ true → w ≡ false → false ≡ (((not d && t) && w) && n)
no-work d t w n e f g = rw (e, f, g) refl

pub told-right : (d t w n : Bool) → d ≡ false → t ≡ true → w ≡ true → n ≡ (((not d && t) && w) && n)
told-right d t w n e f g = rw (e, f, g) refl

-- an end
pub not-stopped : (s r g d : Bool) → s ≡ false → false ≡ (((s && r) && g) && d)
not-stopped s r g d e = rw e refl

pub not-resumed : (s r g d : Bool) → s ≡ true → r ≡ false → false ≡ (((s && r) && g) && d)
not-resumed s r g d e f = rw (e, f) refl

pub not-given-back : (s r g d : Bool) → s ≡ true → r ≡ true → g ≡ false → false ≡ (((s && r) && g) && d)
not-given-back s r g d e f h = rw (e, f, h) refl

pub ended : (s r g d : Bool) → s ≡ true → r ≡ true → g ≡ true → d ≡ (((s && r) && g) && d)
ended s r g d e f h = rw (e, f, h) refl

-- why a row closes a port
pub closed-before : (r x : Option (List ℕ)) → is_some r ≡ true → None ≡ (if is_some r then None else x)
closed-before r x e = rw e refl

pub still-open : (r x : Option (List ℕ)) → is_some r ≡ false → x ≡ (if is_some r then None else x)
still-open r x e = rw e refl
