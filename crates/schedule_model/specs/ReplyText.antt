-- The text of replies: lines that end with LF. `push_reply` cites it, and the other writers of replies.
use Rattle.std.specs.Prelude.{ℕ, List, [], ◌∷◌, ◌++◌, codes, length}
use Rattle.std.specs.List.{flat_map}
use Rattle.std.specs.Fmt.{decimal}
use Rattle.rdf_terms.specs.Spelling.{iri_text, triple_text}
use Rattle.tree_clock.specs.declared.dots.Range.{Range}
use Rattle.tree_clock.specs.Path.{path_text}
use Rattle.tree_clock.specs.Dot.{dot_text, range_text}
use Rattle.mld_ops.specs.declared.tagged.Tagged.{Tagged}
use Rattle.mld_model.specs.Reply.{Reply, Ready, PropertySet, Did, NoOperation, Single, Took, Merged, Held, HeldFull, AlreadyKnown, Shows, Tells, TooMany, Same, Less, More, Apart, Sent, Answer, NothingToSend, Kept, Joined, Deep, NoMessage, Ignored, IsAbsent, IsAsking, IsDown, IsLive, Stopped, Opened, Crashed, ThenCrashed}
use Rattle.schedule_model.specs.Characters.{space, line_end}

-- the line of a pair
abbrev pub pair_line : Tagged → List ℕ
pair_line pair = dot_text pair.dot ++ space ∷ (triple_text pair.triple ++ line_end ∷ [])

-- a range behind a space
abbrev pub spaced_range : Range → List ℕ
spaced_range range = space ∷ range_text range

-- the number of a message behind a space
abbrev pub spaced_message : ℕ → List ℕ
spaced_message number = codes " m" ++ decimal number

-- the text of a reply
unfoldable pub reply_text : Reply → List ℕ
reply_text (Ready count) = codes "ready " ++ (decimal count ++ line_end ∷ [])
reply_text PropertySet = codes "ok\n"
reply_text (Did dot number) = codes "did " ++ (dot_text dot ++ (codes " m" ++ (decimal number ++ line_end ∷ [])))
reply_text NoOperation = codes "none\n"
reply_text (Single subject property) = codes "single " ++ (iri_text subject ++ space ∷ (iri_text property ++ line_end ∷ []))
reply_text (Took ranges) = codes "took" ++ (flat_map spaced_range ranges ++ line_end ∷ [])
reply_text (Merged ranges) = codes "merged" ++ (flat_map spaced_range ranges ++ line_end ∷ [])
reply_text Held = codes "held\n"
reply_text HeldFull = codes "held full\n"
reply_text AlreadyKnown = codes "known\n"
reply_text (Shows pairs) = codes "has " ++ (decimal (length pairs) ++ line_end ∷ flat_map pair_line pairs)
reply_text (Tells text) = text ++ line_end ∷ []
reply_text TooMany = codes "too many\n"
reply_text Same = codes "same\n"
reply_text Less = codes "less\n"
reply_text More = codes "more\n"
reply_text Apart = codes "apart\n"
reply_text (Sent number) = codes "sent m" ++ (decimal number ++ line_end ∷ [])
reply_text (Answer numbers) = codes "answer" ++ (flat_map spaced_message numbers ++ line_end ∷ [])
reply_text NothingToSend = codes "nothing\n"
reply_text (Kept count) = codes "kept " ++ (decimal count ++ line_end ∷ [])
reply_text (Joined path) = codes "joined " ++ (path_text path ++ line_end ∷ [])
reply_text Deep = codes "deep\n"
reply_text NoMessage = codes "no message\n"
reply_text Ignored = codes "ignored\n"
reply_text IsAbsent = codes "absent\n"
reply_text IsAsking = codes "asking\n"
reply_text IsDown = codes "down\n"
reply_text IsLive = codes "live\n"
reply_text Stopped = codes "stopped\n"
reply_text Opened = codes "opened\n"
reply_text Crashed = codes "crashed\n"
reply_text (ThenCrashed reply) = reply_text reply ++ codes "crashed\n"
