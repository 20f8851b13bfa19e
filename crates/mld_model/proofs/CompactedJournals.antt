-- A journal that is compacted is one list, has the dots that it had, and is sound.
use Rattle.std.proofs.Common.{◌≡◌, ℕ, suc, ◌-◌, ◌<◌, ◌≤◌, min, List, [], ◌∷◌, ◌++◌, ◌⊎◌, ◌↔◌, inl, inr, refl, sym, ◌∙◌, ap, subst, arith, length, length-append}
use Rattle.std.proofs.lemmas.Bool.{cases_lt}
use Rattle.tree_clock.specs.declared.dots.Dot.{Dot}
use Rattle.tree_clock.specs.declared.dots.Range.{Range}
use Rattle.tree_clock.specs.Dot.{Knows}
use Rattle.tree_clock.specs.DotLaws.{Knows-append}
use Rattle.mld_ops.specs.History.{Operation, IsClosed, dot_at}
use Rattle.mld_ops.specs.Net.{IsTime}
use Rattle.mld_ops.specs.Ready.{last_dot}
use Rattle.mld_ops.proofs.OperationLaws.{knows_more, knows_still, knows_last}
use Rattle.op_fusion.specs.Fusion.{AreNeighbours, joined}
use Rattle.op_fusion.specs.Compacting.{IsRun, EndsRun, AreCompacted}
use Rattle.op_fusion.proofs.FusedNets.{in_left, in_right, in_either}
use Rattle.mld_model.specs.Clone.{Live, Stored, known_of}
use Rattle.mld_model.specs.World.{World, clone_at, with_clone}
use Rattle.mld_model.specs.Sound.{MayFollow, IsSoundJournal, IsSoundClone, IsSound}
use Rattle.mld_model.proofs.SoundLaws.{changed_sound, live_sound}

-- ---- one list

head_of : (one other : Range) (ranges others : List Range) → one ∷ ranges ≡ other ∷ others → one ≡ other
head_of one other ranges others same = cc

tail_of : (one other : Range) (ranges others : List Range) → one ∷ ranges ≡ other ∷ others → ranges ≡ others
tail_of one other ranges others same = cc

not_empty : (one : Range) (ranges : List Range) → ¬ ([] ≡ one ∷ ranges)
not_empty one ranges same = cc

-- a run that is as long as it can be is one run
run_once : (first : Range) (run rest other behind : List Range) (whole second : Range) → run ++ rest ≡ other ++ behind
    → IsRun first run whole → EndsRun whole rest → IsRun first other second → EndsRun second behind → (whole ≡ second) × (rest ≡ behind)
run_once first [] rest [] behind whole second same p ends q stops = (p ∙ sym q, same)
run_once first [] [] (next ∷ other) behind whole second same p ends q stops = absurd (not_empty next (other ++ behind) same)
run_once first [] (range ∷ rest) (next ∷ other) behind whole second same p ends q stops =
    let near : AreNeighbours first range = subst (λ (r : Range). AreNeighbours first r) (sym (head_of range next rest (other ++ behind) same)) q.0 in
    absurd (ends (subst (λ (r : Range). AreNeighbours r range) (sym p) near))
run_once first (next ∷ run) rest [] [] whole second same p ends q stops = absurd (not_empty next (run ++ rest) (sym same))
run_once first (next ∷ run) rest [] (range ∷ behind) whole second same p ends q stops =
    let near : AreNeighbours first range = subst (λ (r : Range). AreNeighbours first r) (head_of next range (run ++ rest) behind same) p.0 in
    absurd (stops (subst (λ (r : Range). AreNeighbours r range) (sym q) near))
run_once first (next ∷ run) rest (range ∷ other) behind whole second same p ends q stops =
    let is : next ≡ range = head_of next range (run ++ rest) (other ++ behind) same in
    run_once (joined first next) run rest other behind whole second (tail_of next range (run ++ rest) (other ++ behind) same) p.1 ends
    (subst (λ (r : Range). IsRun (joined first r) other second) (sym is) q.1) stops

-- so compacted ranges are one list
pub compacted_once : (ranges one other : List Range) → AreCompacted ranges one → AreCompacted ranges other → one ≡ other
compacted_once ranges [] [] p q = refl
compacted_once ranges [] (second ∷ other) p q = absurd (not_empty q.0 (q.1 ++ q.2) (sym p ∙ q.3))
compacted_once ranges (whole ∷ one) [] p q = absurd (not_empty p.0 (p.1 ++ p.2) (sym q ∙ p.3))
compacted_once ranges (whole ∷ one) (second ∷ other) p q =
    let same : p.0 ∷ (p.1 ++ p.2) ≡ q.0 ∷ (q.1 ++ q.2) = sym p.3 ∙ q.3 in
    let run : IsRun p.0 q.1 second = subst (λ (r : Range). IsRun r q.1 second) (sym (head_of p.0 q.0 (p.1 ++ p.2) (q.1 ++ q.2) same)) q.4 in
    let first : (whole ≡ second) × (p.2 ≡ q.2) =
    run_once p.0 p.1 p.2 q.1 q.2 whole second (tail_of p.0 q.0 (p.1 ++ p.2) (q.1 ++ q.2) same) p.4 p.5 run q.5 in
    let rest : one ≡ other = compacted_once p.2 one other p.6 (subst (λ (rs : List Range). AreCompacted rs other) (sym first.1) q.6) in
    λ i. first.0 i ∷ rest i

-- ---- the number of ranges

run_shrinks : (first : Range) (run rest : List Range) (whole : Range) (others : List Range) → IsRun first run whole
    → (others ≡ rest) ⊎ (length others < length rest)
    → (whole ∷ others ≡ first ∷ (run ++ rest)) ⊎ (suc (length others) < suc (length (run ++ rest)))
run_shrinks first [] rest whole others p (inl same) = inl (λ i. p i ∷ same i)
run_shrinks first [] rest whole others p (inr shorter) = inr (omega (arith, shorter))
run_shrinks first (next ∷ run) rest whole others p both =
    let most : length others ≤ length rest = elim both [
      | inl same ↦ omega (arith, ap (λ (rs : List Range). length rs) same)
      | inr shorter ↦ omega (arith, shorter)
    ] in
    inr (omega (arith, most, length-append run rest))

-- compacted ranges are the ranges, or fewer
pub compacted_shrinks : (ranges compacted : List Range) → AreCompacted ranges compacted → (compacted ≡ ranges) ⊎ (length compacted < length ranges)
compacted_shrinks ranges [] p = inl (sym p)
compacted_shrinks ranges (whole ∷ others) p =
    subst (λ (rs : List Range). (whole ∷ others ≡ rs) ⊎ (suc (length others) < length rs)) (sym p.3)
    (run_shrinks p.0 p.1 p.2 whole others p.4 (compacted_shrinks p.2 others p.6))

-- ---- the dots

run_dots : (first : Range) (run rest : List Range) (whole : Range) (dot : Dot) → IsRun first run whole → Knows (first ∷ (run ++ rest)) dot ↔ Knows (whole ∷ rest) dot
run_dots first [] rest whole dot p =
    (λ k. subst (λ (r : Range). Knows (r ∷ rest) dot) (sym p) k, λ k. subst (λ (r : Range). Knows (r ∷ rest) dot) p k)
run_dots first (next ∷ run) rest whole dot p =
    let more : Knows (joined first next ∷ (run ++ rest)) dot ↔ Knows (whole ∷ rest) dot = run_dots (joined first next) run rest whole dot p.1 in
    let joins : Knows (first ∷ next ∷ (run ++ rest)) dot → Knows (joined first next ∷ (run ++ rest)) dot = λ k. elim k [
      | inl own ↦ inl (in_left first next p.0 dot own)
      | inr others ↦ elim others [ inl own ↦ inl (in_right first next p.0 dot own) | inr m ↦ inr m ]
    ] in
    let splits : Knows (joined first next ∷ (run ++ rest)) dot → Knows (first ∷ next ∷ (run ++ rest)) dot = λ k. elim k [
      | inl both ↦ elim (in_either first next p.0 dot both) [ inl own ↦ inl own | inr own ↦ inr (inl own) ]
      | inr m ↦ inr (inr m)
    ] in
    (λ k. more.0 (joins k), λ k. splits (more.1 k))

-- compacted ranges have the dots of the ranges
pub compacted_dots : (ranges compacted : List Range) (dot : Dot) → AreCompacted ranges compacted → Knows ranges dot ↔ Knows compacted dot
compacted_dots ranges [] dot p = (λ k. subst (λ (rs : List Range). Knows rs dot) p k, λ k. absurd k)
compacted_dots ranges (whole ∷ others) dot p =
    let run : Knows (p.0 ∷ (p.1 ++ p.2)) dot ↔ Knows (whole ∷ p.2) dot = run_dots p.0 p.1 p.2 whole dot p.4 in
    let rest : Knows p.2 dot ↔ Knows others dot = compacted_dots p.2 others dot p.6 in (
      λ k. elim (run.0 (subst (λ (rs : List Range). Knows rs dot) p.3 k)) [ inl own ↦ inl own | inr m ↦ inr (rest.0 m) ],
      λ k. subst (λ (rs : List Range). Knows rs dot) (sym p.3) (run.1 (elim k [ inl own ↦ inl own | inr m ↦ inr (rest.1 m) ])),
    )

-- so a clone knows the same dots once its journal is compacted
pub known_compacted : (stored : Stored) (ranges : List Range) (dot : Dot) → AreCompacted stored.journal ranges
    → Knows (known_of stored) dot ↔ Knows (known_of (record stored { journal = ranges })) dot
known_compacted stored ranges dot p =
    let same : Knows stored.journal dot ↔ Knows ranges dot = compacted_dots stored.journal ranges dot p in
    let old : Knows (stored.base ++ stored.journal) dot ↔ (Knows stored.base dot ⊎ Knows stored.journal dot) = Knows-append stored.base stored.journal dot in
    let new : Knows (stored.base ++ ranges) dot ↔ (Knows stored.base dot ⊎ Knows ranges dot) = Knows-append stored.base ranges dot in (
      λ k. new.1 (elim (old.0 k) [ inl own ↦ inl own | inr m ↦ inr (same.0 m) ]),
      λ k. old.1 (elim (new.0 k) [ inl own ↦ inl own | inr m ↦ inr (same.1 m) ]),
    )

-- ---- soundness

-- both lists have the same dots
abbrev AreAlike : List Range → List Range → Type 0
AreAlike known other = (dot : Dot) → Knows known dot ↔ Knows other dot

alike_with : (known other : List Range) (range : Range) → AreAlike known other → AreAlike (known ++ range ∷ []) (other ++ range ∷ [])
alike_with known other range same dot = (
  λ k. elim (knows_more known range dot k) [ inl own ↦ knows_still other range dot ((same dot).0 own) | inr last ↦ knows_last other range dot last ],
  λ k. elim (knows_more other range dot k) [ inl own ↦ knows_still known range dot ((same dot).1 own) | inr last ↦ knows_last known range dot last ],
)

-- a journal of this history
module _ (history : List Operation) where
  -- what is said of known dots is said of each other list of them
  closed_alike : (known other : List Range) → AreAlike known other → IsClosed history known → IsClosed history other
  closed_alike known other same closed = record {
    done = λ dot k. closed.done dot ((same dot).1 k);
    causes = λ operation stands k dot cause. (same dot).0 (closed.causes operation stands ((same operation.dot).1 k) dot cause);
  }

  follow_alike : (known other : List Range) (range : Range) → AreAlike known other → MayFollow history known range → MayFollow history other range
  follow_alike known other range same follows = record {
    positive = follows.positive;
    some = follows.some;
    ready = record {
      unknown = λ k. follows.ready.unknown ((same (last_dot range)).1 k);
      time = λ dot time outside. (same dot).0 (follows.ready.time dot time outside);
      before = elim follows.ready.before [ inl one ↦ inl one | inr k ↦ inr ((same (dot_at range.path (range.first - 1))).0 k) ];
    };
  }

  journal_alike : (known other journal : List Range) → AreAlike known other → IsSoundJournal history known journal → IsSoundJournal history other journal
  journal_alike known other [] same sound = closed_alike known other same sound
  journal_alike known other (range ∷ journal) same sound = (
    closed_alike known other same sound.0,
    follow_alike known other range same sound.1,
    journal_alike (known ++ range ∷ []) (other ++ range ∷ []) journal (alike_with known other range same) sound.2,
  )

  -- two neighbours behind these known dots
  module _ (known : List Range) (first second : Range) (near : AreNeighbours first second) (one : MayFollow history known first)
      (two : MayFollow history (known ++ first ∷ []) second) where
    alike_joined : AreAlike ((known ++ first ∷ []) ++ second ∷ []) (known ++ joined first second ∷ [])
    alike_joined dot = (
      λ k. elim (knows_more (known ++ first ∷ []) second dot k) [
        | inl m ↦ elim (knows_more known first dot m) [
          | inl own ↦ knows_still known (joined first second) dot own
          | inr inside ↦ knows_last known (joined first second) dot (in_left first second near dot inside)
        ]
        | inr inside ↦ knows_last known (joined first second) dot (in_right first second near dot inside)
      ],
      λ k. elim (knows_more known (joined first second) dot k) [
        | inl own ↦ knows_still (known ++ first ∷ []) second dot (knows_still known first dot own)
        | inr both ↦ elim (in_either first second near dot both) [
          | inl inside ↦ knows_still (known ++ first ∷ []) second dot (knows_last known first dot inside)
          | inr inside ↦ knows_last (known ++ first ∷ []) second dot inside
        ]
      ],
    )

    -- the time of both is the second's
    joined_time : (dot : Dot) → IsTime history (joined first second) dot → IsTime history second dot
    joined_time dot time =
        let same : last_dot (joined first second) ≡ last_dot second = ap (λ (path : List ℕ). dot_at path second.last) near.path in
        record {
          last = time.last;
          stands = time.stands;
          is = time.is ∙ same;
          cause = elim time.cause [ inl cause ↦ inl cause | inr own ↦ inr (own ∙ same) ];
        }

    -- the tick before both is known, if there is one
    joined_before : ((joined first second).first ≡ 1) ⊎ Knows known (dot_at first.path ((joined first second).first - 1))
    joined_before = elim (cases_lt second.first first.first) [
      | inl early ↦
          let least : second.first ≡ min first.first second.first = omega (arith, early) in
          elim two.ready.before [
            | inl is ↦ inl (sym least ∙ is)
            | inr k ↦ elim (knows_more known first (dot_at second.path (second.first - 1)) k) [
              | inl own ↦ inr (subst (λ (n : ℕ). Knows known (dot_at first.path (n - 1))) least
                  (subst (λ (path : List ℕ). Knows known (dot_at path (second.first - 1))) (sym near.path) own))
              | inr inside ↦ let above : first.first ≤ second.first - 1 = inside.above in absurd (omega (arith, above, early))
            ]
          ]
      | inr late ↦
          let least : first.first ≡ min first.first second.first = omega (arith, late) in
          elim one.ready.before [
            | inl is ↦ inl (sym least ∙ is)
            | inr own ↦ inr (subst (λ (n : ℕ). Knows known (dot_at first.path (n - 1))) least own)
          ]
    ]

    joined_follows : MayFollow history known (joined first second)
    joined_follows = record {
      positive = omega (arith, one.positive, two.positive);
      some = omega (arith, two.some);
      ready = record {
        unknown = λ k. two.ready.unknown (knows_still known first (last_dot second) (subst (λ (path : List ℕ). Knows known (dot_at path second.last)) near.path k));
        time = λ dot time outside. elim (knows_more known first dot (two.ready.time dot (joined_time dot time) (λ inside. outside (in_right first second near dot inside)))) [
          | inl own ↦ own
          | inr inside ↦ absurd (outside (in_left first second near dot inside))
        ];
        before = joined_before;
      };
    }

  -- a run and what comes behind it, once the run is one range
  run_sound : (known : List Range) (first : Range) (run rest : List Range) (whole : Range) → IsRun first run whole
      → IsSoundJournal history known (first ∷ (run ++ rest)) → IsSoundJournal history known (whole ∷ rest)
  run_sound known first [] rest whole p sound = subst (λ (r : Range). IsSoundJournal history known (r ∷ rest)) (sym p) sound
  run_sound known first (next ∷ run) rest whole p sound =
      run_sound known (joined first next) run rest whole p.1 (
        sound.0,
        joined_follows known first next p.0 sound.1 sound.2.1,
        journal_alike ((known ++ first ∷ []) ++ next ∷ []) (known ++ joined first next ∷ []) (run ++ rest)
            (alike_joined known first next p.0 sound.1 sound.2.1) sound.2.2,
      )

  -- a sound journal that is compacted is sound
  pub compacted_journal : (known journal compacted : List Range) → AreCompacted journal compacted → IsSoundJournal history known journal
      → IsSoundJournal history known compacted
  compacted_journal known journal [] p sound = subst (λ (rs : List Range). IsSoundJournal history known rs) p sound
  compacted_journal known journal (whole ∷ others) p sound =
      let run : IsSoundJournal history known (whole ∷ p.2) =
      run_sound known p.0 p.1 p.2 whole p.4 (subst (λ (rs : List Range). IsSoundJournal history known rs) p.3 sound) in
      (run.0, run.1, compacted_journal (known ++ whole ∷ []) p.2 others p.6 run.2)

  -- and so is a clone
  pub compacted_clone : (stored : Stored) (ranges : List Range) → AreCompacted stored.journal ranges → IsSoundClone history stored
      → IsSoundClone history (record stored { journal = ranges })
  compacted_clone stored ranges p sound =
      let same : AreAlike (known_of stored) (known_of (record stored { journal = ranges })) = λ dot. known_compacted stored ranges dot p in
      record {
        closed = closed_alike (known_of stored) (known_of (record stored { journal = ranges })) same sound.closed;
        journal = compacted_journal stored.base stored.journal ranges p sound.journal;
        own = λ operation stands path. (same operation.dot).0 (sound.own operation stands path);
        above = λ operation stands goes_on. (same operation.dot).0 (sound.above operation stands goes_on);
        below = sound.below;
      }

-- a live clone of a sound world that compacts its journal keeps the world sound
pub compacted_sound : (world : World) (number : ℕ) (stored : Stored) (held ranges : List Range) → IsSound world → clone_at world number ≡ Live stored held
    → AreCompacted stored.journal ranges → IsSound (with_clone world number (Live (record stored { journal = ranges }) held))
compacted_sound world number stored held ranges sound live p =
    changed_sound world number stored held sound live (record stored { journal = ranges }) held refl
    (compacted_clone world.history stored ranges p (live_sound world number stored held sound live)) (sound.held number stored held live)
