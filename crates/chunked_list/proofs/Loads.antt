-- How the load of a list in chunks changes, and with it the room.
use Rattle.std.proofs.Common.{◌≡◌, ℕ, ◌+◌, ◌-◌, ◌<◌, ◌≤◌, min, List, [], ◌∷◌, ◌++◌, length, set, suc, zero, refl, sym, subst, ap, ◌∙◌, arith}
use Rattle.std.proofs.lemmas.List.{length-take, length-drop, length-set}
use Rattle.std.specs.List.{remove, insert}
use Rattle.hinted_chunks.specs.ChunkLimits.{chunk_limit, half_limit}
use Rattle.chunked_list.specs.Joined.{chunk_at}
use Rattle.chunked_list.specs.Room.{excess_of, last_half, load_of, room_of}
use Rattle.chunked_list.specs.Stores.{AreSized}
use Rattle.chunked_list.proofs.Storing.{split_of, at_set, excess_at, length_put, length_take}

-- how the room changes with the load, over numbers alone
pub room_within : (s old new : ℕ) → new ≤ old + 1 → room_of s old ≤ room_of s new + 1
room_within s old new h = omega (arith, h)

pub room_less : (s old new : ℕ) → new ≤ old → room_of s old ≤ room_of s new
room_less s old new h = omega (arith, h)

-- a chunk to spare that is taken has to take a half off the load, but for the element that comes in
pub room_taken : (s t old new : ℕ) → s ≡ t + 1 → new + (half_limit - 1) ≤ old → room_of s old ≤ room_of t new + 1
room_taken s t old new e h = omega (arith, e, h)

-- and one that is given back makes up for a half
pub room_given : (s t old new : ℕ) → t ≡ s + 1 → new ≤ old + half_limit → room_of s old ≤ room_of t new
room_given s t old new e h = omega (arith, e, h)

-- without one to spare the load is less than a half
pub no_room : (s load : ℕ) → s ≡ 0 → 0 < room_of s load → load < half_limit
no_room s load e r = omega (arith, e, r)

step : (c : ℕ) → suc c + 1 ≡ suc (c + 1)
step c = omega arith

-- the load, where another number is given for a list with no chunk
abbrev pub load_from : {X : Type 0} → ℕ → List (List X) → ℕ
load_from n chunks = excess_of chunks + last_half n chunks

-- a chunk that is put in another's place has so many elements more at most
pub load_set : {X : Type 0} (n k : ℕ) (chunks : List (List X)) (c : ℕ) (v : List X) → c < length chunks → length v ≤ length (chunk_at chunks c) + k
    → load_from n (set chunks c v) ≤ load_from n chunks + k
load_set n k [] c v l h = absurd (omega (arith, l))
load_set n k (x ∷ []) zero v l h = omega (arith, h)
load_set n k (x ∷ y ∷ ys) zero v l h = omega (arith, h)
load_set n k (x ∷ xs) (suc c) v l h = let i = load_set (min half_limit (length x)) k xs c v (omega (arith, l)) h in omega (arith, i)

-- a full chunk that is split
load_halves : {X : Type 0} (n : ℕ) (chunks : List (List X)) (c : ℕ) → c < length chunks → length (chunk_at chunks c) ≡ chunk_limit
    → load_from n (split_of chunks c) + half_limit ≡ load_from n chunks
load_halves n [] c l o = absurd (omega (arith, l))
load_halves n (x ∷ []) zero l o = let a = length-take half_limit x in let b = length-drop half_limit x in omega (arith, a, b, o)
load_halves n (x ∷ y ∷ ys) zero l o = let a = length-take half_limit x in let b = length-drop half_limit x in omega (arith, a, b, o)
load_halves n (x ∷ xs) (suc c) l o = rw (step c) (let h = load_halves (min half_limit (length x)) xs c (omega (arith, l)) o in omega (arith, h))

-- a chunk of one element behind a last one that has a half
load_behind : {X : Type 0} (n : ℕ) (chunks : List (List X)) (x : X) → load_from n (chunks ++ (x ∷ []) ∷ []) ≡ excess_of chunks + 1
load_behind n [] x = omega arith
load_behind n (y ∷ ys) x = let h = load_behind (min half_limit (length y)) ys x in omega (arith, h)

-- the last chunk's half
pub last_is : {X : Type 0} (n : ℕ) (chunks : List (List X)) (c : ℕ) → c < length chunks → length chunks ≤ c + 1
    → last_half n chunks ≡ min half_limit (length (chunk_at chunks c))
last_is n [] c l m = absurd (omega (arith, l))
last_is n (x ∷ []) zero l m = refl
last_is n (x ∷ y ∷ ys) zero l m = absurd (omega (arith, m))
last_is n (x ∷ xs) (suc c) l m = last_is (min half_limit (length x)) xs c (omega (arith, l)) (omega (arith, m))

pub last_full : {X : Type 0} (chunks : List (List X)) (c n : ℕ) → c < length chunks → length chunks ≤ c + 1 → n ≡ length (chunk_at chunks c) → half_limit ≤ n
    → last_half half_limit chunks ≡ half_limit
last_full chunks c n l m e h = let i = last_is half_limit chunks c l m in omega (arith, i, e, h)

pub last_some : {X : Type 0} (n : ℕ) (chunks : List (List X)) → 0 < n → AreSized chunks → 0 < last_half n chunks
last_some n [] l a = l
last_some n (x ∷ xs) l a = last_some (min half_limit (length x)) xs (omega (arith, a.0.0)) a.1

-- a chunk of one element that goes: one that isn't the last, and the last
load_gone : {X : Type 0} (n : ℕ) (chunks : List (List X)) (c : ℕ) → c + 1 < length chunks → load_from n (remove chunks c) ≤ load_from n chunks
load_gone n [] c l = absurd (omega (arith, l))
load_gone n (x ∷ []) c l = absurd (omega (arith, l))
load_gone n (x ∷ y ∷ ys) zero l = omega arith
load_gone n (x ∷ y ∷ ys) (suc c) l = let h = load_gone (min half_limit (length x)) (y ∷ ys) c (omega (arith, l)) in omega (arith, h)

load_last : {X : Type 0} (n : ℕ) (chunks : List (List X)) (c : ℕ) → n ≤ half_limit → c < length chunks → length chunks ≤ c + 1
    → load_from n (remove chunks c) ≤ load_from n chunks + half_limit
load_last n [] c k l m = absurd (omega (arith, l))
load_last n (x ∷ []) zero k l m = omega (arith, k)
load_last n (x ∷ y ∷ ys) zero k l m = absurd (omega (arith, m))
load_last n (x ∷ xs) (suc c) k l m = let h = load_last (min half_limit (length x)) xs c (omega arith) (omega (arith, l)) (omega (arith, m)) in omega (arith, h)

-- where a chunk is full, one is to spare
pub no_split : {X : Type 0} (chunks : List (List X)) (c s : ℕ) → AreSized chunks → c < length chunks → length (chunk_at chunks c) + 1 ≡ chunk_limit → s ≡ 0
    → 0 < room_of s (load_of chunks) → ⊥
no_split chunks c s a l f e r =
    let h = no_room s (load_of chunks) e r in
    let x = excess_at chunks c l in
    let y = last_some half_limit chunks (omega arith) a in
    omega (arith, h, x, y, f)

-- what an edit does to the load
pub put_load : {X : Type 0} (chunks items : List (List X)) (c at : ℕ) (x : X) → c < length chunks → items ≡ set chunks c (insert (chunk_at chunks c) at x)
    → load_of items ≤ load_of chunks + 1
put_load chunks items c at x l e =
    let n = length_put (chunk_at chunks c) at x in
    subst (λ zs. load_of zs ≤ load_of chunks + 1) (sym e) (load_set half_limit 1 chunks c (insert (chunk_at chunks c) at x) l (omega (arith, n)))

pub take_load : {X : Type 0} (chunks items : List (List X)) (c at : ℕ) → c < length chunks → at < length (chunk_at chunks c)
    → items ≡ set chunks c (remove (chunk_at chunks c) at) → load_of items ≤ load_of chunks
take_load chunks items c at l m e =
    let n = length_take (chunk_at chunks c) at m in
    let h = load_set half_limit 0 chunks c (remove (chunk_at chunks c) at) l (omega (arith, n)) in
    subst (λ zs. load_of zs ≤ load_of chunks) (sym e) (omega (arith, h))

pub split_load : {X : Type 0} (chunks items new : List (List X)) (c at : ℕ) (x : X) → c < length chunks → length (chunk_at chunks c) + 1 ≡ chunk_limit
    → items ≡ set chunks c (insert (chunk_at chunks c) at x) → new ≡ split_of items c → load_of new + (half_limit - 1) ≤ load_of chunks
split_load chunks items new c at x l f i s =
    let v = insert (chunk_at chunks c) at x in
    let n : length items ≡ length chunks = ap length i ∙ length-set chunks c v in
    let o : length (chunk_at items c) ≡ chunk_limit = ap (λ zs. length (chunk_at zs c)) i ∙ ap length (at_set chunks c v l) ∙ length_put (chunk_at chunks c) at x ∙ f in
    let h = load_halves half_limit items c (omega (arith, n, l)) o in
    let k = put_load chunks items c at x l i in
    let e : load_of new ≡ load_of (split_of items c) = ap load_of s in
    omega (arith, h, k, e)

pub behind_load : {X : Type 0} (chunks items : List (List X)) (x : X) → last_half half_limit chunks ≡ half_limit → items ≡ chunks ++ (x ∷ []) ∷ []
    → load_of items + (half_limit - 1) ≤ load_of chunks
behind_load chunks items x f e =
    let h = load_behind half_limit chunks x in
    let i : load_of items ≡ load_of (chunks ++ (x ∷ []) ∷ []) = ap load_of e in
    omega (arith, h, i, f)

pub gone_load : {X : Type 0} (chunks items : List (List X)) (c : ℕ) → c + 1 < length chunks → items ≡ remove chunks c → load_of items ≤ load_of chunks
gone_load chunks items c l e = subst (λ zs. load_of zs ≤ load_of chunks) (sym e) (load_gone half_limit chunks c l)

pub last_load : {X : Type 0} (chunks items : List (List X)) (c : ℕ) → c < length chunks → length chunks ≤ c + 1 → items ≡ remove chunks c
    → load_of items ≤ load_of chunks + half_limit
last_load chunks items c l m e = subst (λ zs. load_of zs ≤ load_of chunks + half_limit) (sym e) (load_last half_limit chunks c (omega arith) l m)
