-- Where reading stops a text stops being the beginning of a triple's text.
use Rattle.std.proofs.Common.{◌≡◌, ℕ, suc, ◌+◌, ◌-◌, ◌<◌, ◌≤◌, List, [], ◌∷◌, ◌++◌, length, take, Option, Some, None, refl, sym, ap, ◌∙◌, subst, arith, append_assoc, length-append}
use Rattle.std.proofs.Math.Seq.{take-append_seam, take-append-add}
use Rattle.rdf_terms.specs.Building.{IsNoTriple}
use Rattle.rdf_terms.specs.Places.{IsPlace, BeginsTriple}
use Rattle.rdf_terms.specs.TripleReading.{State, Before, Within, Quoted, Hat, Tag, Closed, Ended, Single, Subject, Spelled, Stopped, step, run, verdict}
use Rattle.rdf_terms.proofs.Steps.{run_step, run_stop}
use Rattle.rdf_terms.proofs.Opening.{IsOpen, open_step}
use Rattle.rdf_terms.proofs.Live.{live}
use Rattle.rdf_terms.proofs.Sound.{read_spelled}
use Rattle.rdf_terms.proofs.Complete.{spelled_read}

-- no byte comes, or one that may not stand there
abbrev IsRefused : State → List ℕ → Type 0
IsRefused state [] = Unit {0}
IsRefused state (byte ∷ bytes) = step state byte ≡ None

-- reading a text from a state stops with so many bytes left: the front leads to a state that the rest is refused in
record StopsBy (text : List ℕ) (state : State) (left : ℕ) : Type 0 where
  front : List ℕ
  rest : List ℕ
  last : State
  whole : text ≡ front ++ rest
  count : left ≡ length rest
  reached : IsOpen last
  leads : (more : List ℕ) → run (front ++ more) state ≡ run more last
  refused : IsRefused last rest

-- where a text ends nothing is left
ends_stopped : (state : State) (left : ℕ) → verdict state ≡ Stopped left → left ≡ 0
unfolding verdict
ends_stopped (Before slot) left h = cc
ends_stopped (Within slot spot part value) left h = cc
ends_stopped (Quoted s p lexical) left h = cc
ends_stopped (Hat s p lexical) left h = cc
ends_stopped (Tag s p lexical dashed full tag) left h = cc
ends_stopped (Closed s p o) left h = cc
ends_stopped (Ended s p o) left h = absurd (cc)
ends_stopped (Single iri) left h = absurd (cc)

stops_at_end : (state : State) (left : ℕ) → IsOpen state → run [] state ≡ Stopped left → StopsBy [] state left
unfolding run
stops_at_end state left o h = record {
  front = [];
  rest = [];
  last = state;
  whole = refl;
  count = ends_stopped state left h;
  reached = o;
  leads = λ more. refl;
  refused = tt;
}

-- a byte that is refused
stops_here : (byte : ℕ) (bytes : List ℕ) (state : State) (left : ℕ) → IsOpen state → run (byte ∷ bytes) state ≡ Stopped left → step state byte ≡ None
    → StopsBy (byte ∷ bytes) state left
stops_here byte bytes state left o h e = record {
  front = [];
  rest = byte ∷ bytes;
  last = state;
  whole = refl;
  count = let s : run (byte ∷ bytes) state ≡ Stopped (suc (length bytes)) = run_stop state byte bytes e in cc;
  reached = o;
  leads = λ more. refl;
  refused = e;
}

-- a byte that leads on
stops_later : (byte : ℕ) (bytes : List ℕ) (state next : State) (left : ℕ) → step state byte ≡ Some next → StopsBy bytes next left → StopsBy (byte ∷ bytes) state left
stops_later byte bytes state next left e s = record {
  front = byte ∷ s.front;
  rest = s.rest;
  last = s.last;
  whole = ap (λ l. byte ∷ l) s.whole;
  count = s.count;
  reached = s.reached;
  leads = λ more. run_step state next byte (s.front ++ more) e ∙ s.leads more;
  refused = s.refused;
}

stops : (text : List ℕ) (state : State) (left : ℕ) → IsOpen state → run text state ≡ Stopped left → StopsBy text state left
stops [] state left o h = stops_at_end state left o h
stops (byte ∷ bytes) state left o h =
    at (step state byte) refl (λ next e. stops bytes next left (open_step state next byte e) (sym (run_step state next byte bytes e) ∙ h))
  where
    at : (found : Option State) → step state byte ≡ found → ((next : State) → step state byte ≡ Some next → StopsBy bytes next left) → StopsBy (byte ∷ bytes) state left
    at None e f = stops_here byte bytes state left o h e
    at (Some next) e f = stops_later byte bytes state next left e (f next e)

-- ---- the place

-- the front begins a triple
front_begins : (text : List ℕ) (left : ℕ) → (s : StopsBy text (Before Subject) left) → BeginsTriple s.front
front_begins text left s =
    let l = live s.last s.reached in
    (l.0, l.1, read_spelled (s.front ++ l.0) l.1 (s.leads l.0 ∙ l.2))

-- the front with a byte more begins none
front_longest : (text : List ℕ) (left : ℕ) → (s : StopsBy text (Before Subject) left) (byte : ℕ) (bytes more : List ℕ) → s.rest ≡ byte ∷ bytes → ¬ BeginsTriple (s.front ++ byte ∷ more)
front_longest text left s byte bytes more e b =
    let refused : step s.last byte ≡ None = subst (IsRefused s.last) e s.refused in
    let read : run ((s.front ++ byte ∷ more) ++ b.0) (Before Subject) ≡ Spelled b.1 = spelled_read ((s.front ++ byte ∷ more) ++ b.0) b.1 b.2 in
    let same : run ((s.front ++ byte ∷ more) ++ b.0) (Before Subject) ≡ run (byte ∷ (more ++ b.0)) s.last =
    ap (λ l. run l (Before Subject)) (append_assoc s.front (byte ∷ more) b.0) ∙ s.leads (byte ∷ (more ++ b.0)) in
    let stopped : run (byte ∷ (more ++ b.0)) s.last ≡ Stopped (suc (length (more ++ b.0))) = run_stop s.last byte (more ++ b.0) refused in
    cc

-- a front of two lists in a row that is longer than the first
longer_front : (front rest : List ℕ) (longer : ℕ) → length front < longer → longer ≤ length (front ++ rest)
    → (byte : ℕ) × (bytes : List ℕ) × (more : List ℕ) × (rest ≡ byte ∷ bytes) × (take longer (front ++ rest) ≡ front ++ byte ∷ more)
longer_front front [] longer h k = absurd (omega (arith, length-append front []))
longer_front front (byte ∷ bytes) longer h k =
    let beyond : ℕ = longer - suc (length front) in
    let sum : longer ≡ length front + suc beyond = omega arith in
    (byte, bytes, take beyond bytes, refl, ap (λ n. take n (front ++ byte ∷ bytes)) sum ∙ take-append-add front (byte ∷ bytes) (suc beyond))

-- so many bytes off the end leave the front
place_front : (text front rest : List ℕ) (left : ℕ) → text ≡ front ++ rest → left ≡ length rest → length text - left ≡ length front
place_front text front rest left w c = omega (arith, ap length w, length-append front rest)

front_taken : (text front rest : List ℕ) (place : ℕ) → text ≡ front ++ rest → place ≡ length front → front ≡ take place text
front_taken text front rest place w e = rw (w, e) (sym (take-append_seam front rest))

-- no longer front begins a triple
none_longer : (text : List ℕ) (left : ℕ) → (s : StopsBy text (Before Subject) left) (longer : ℕ) → length s.front < longer → longer ≤ length text
    → ¬ BeginsTriple (take longer text)
none_longer text left s longer h k b =
    let room : longer ≤ length (s.front ++ s.rest) = omega (arith, ap length s.whole) in
    let f = longer_front s.front s.rest longer h room in
    let g : BeginsTriple (take longer (s.front ++ s.rest)) = subst (λ (l : List ℕ). BeginsTriple (take longer l)) s.whole b in
    front_longest text left s f.0 f.1 f.2 f.3 (subst BeginsTriple f.4 g)

place_of : (text : List ℕ) (left : ℕ) → StopsBy text (Before Subject) left → IsPlace text (length text - left)
place_of text left s =
    let place : length text - left ≡ length s.front = place_front text s.front s.rest left s.whole s.count in
    record {
      within = omega arith;
      begins = subst BeginsTriple (front_taken text s.front s.rest (length text - left) s.whole place) (front_begins text left s);
      longest = λ longer h k.
          let past : length s.front < longer = omega arith in
          none_longer text left s longer past k;
    }

-- what stops is spelled by no triple, and stops at its place
pub stopped_exactly : (text : List ℕ) (left : ℕ) → run text (Before Subject) ≡ Stopped left → IsNoTriple text (length text - left)
stopped_exactly text left h = record {
  unspelled = λ t k. let read : run text (Before Subject) ≡ Spelled t = spelled_read text t k in cc;
  exact = place_of text left (stops text (Before Subject) left tt h);
}
