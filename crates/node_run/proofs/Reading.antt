-- What is known of words that were read, and of words that were not.
use Rattle.std.proofs.Common.{◌≡◌, ◌≢◌, ◌∷◌, ◌∙◌, ℕ, List, [], Ok, Err, IfOk, IsErrOf, sym, subst, ap, inl, inr}
use Rattle.std.specs.declared.result.Result.{Result}
use Rattle.clap.specs.Words.{HasKind, Kinds, Row, fault_of, kind_of, matches_of}
use Rattle.clap.specs.declared.error.Error.{Error}
use Rattle.clap.specs.declared.error.kind.ErrorKind.TheVariants.{OutOfMemory}
use Rattle.node_run.specs.Words.{AreReadAs, AreRefused, AreWords, ReadsBy, node_app, node_name}
use Rattle.node_run.specs.Words.AreRefused.{by_clap, by_value}
use Rattle.node_run.specs.declared.faults.NodeWordsFault.{NodeWordsFault}
use Rattle.node_run.specs.declared.faults.NodeWordsFault.TheVariants.{Usage}
use Rattle.node_run.specs.declared.node.NodeWords.{NodeWords}

-- words that clap takes
module _ (words named : List (List ℕ)) (found : List Row) (is : named ≡ node_name ∷ words) (finds : found ≡ matches_of node_app named) (taken : fault_of node_app named ≡ []) where
  -- what is found in them
  found_is : found ≡ matches_of node_app (node_name ∷ words)
  found_is = finds ∙ ap (matches_of node_app) is

  taken_is : fault_of node_app (node_name ∷ words) ≡ []
  taken_is = subst (λ (all : List (List ℕ)). fault_of node_app all ≡ []) is taken

  -- are those of the node that is read
  pub words_read : (result : Result NodeWords NodeWordsFault) → ReadsBy (AreReadAs found) result → IfOk result (AreWords words)
  words_read (Ok node) read = record { taken = taken_is; read = subst (λ (rows : List Row). AreReadAs rows node) found_is read }
  words_read (Err fault) read = tt

  -- and are refused where none is read
  pub words_refused : (result : Result NodeWords NodeWordsFault) → ReadsBy (AreReadAs found) result → IsErrOf result Usage → AreRefused words
  words_refused result read same =
      by_value taken_is (λ node h. let none : (node : NodeWords) → ¬ AreReadAs found node = subst (λ (r : Result NodeWords NodeWordsFault). ReadsBy (AreReadAs found) r) same read in
      none node (subst (λ (rows : List Row). AreReadAs rows node) (sym found_is) h))

-- words that clap refuses for another cause than memory
pub words_stopped : (words named : List (List ℕ)) (error : Error) (fault : NodeWordsFault) → named ≡ node_name ∷ words → HasKind (fault_of node_app named) error
    → (fault ≡ Usage → kind_of error ≢ OutOfMemory) → IsErrOf {T = NodeWords} {E = NodeWordsFault} (Err fault) Usage → AreRefused words
words_stopped words named error fault is kinds told usage = by_clap (λ none.
    let same : fault ≡ Usage = cc (usage) in
    let empty : fault_of node_app named ≡ [] = ap (fault_of node_app) is ∙ none in
    let left : HasKind [] error = subst (λ (ks : Kinds). HasKind ks error) empty kinds in
    elim left [
      | inl memory ↦ told same memory
      | inr other ↦ other
    ])
