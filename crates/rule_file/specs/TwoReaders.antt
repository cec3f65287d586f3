-- What is claimed of two readers, one within tighter limits than the other. Assumes nothing.
use Rattle.std.specs.Prelude.{◌≡◌, List, ℕ, ◌≤◌, ◌<◌, length, Err}
use Rattle.limits.specs.Limits.{rule_trailer}
use Rattle.answer.specs.Answer.{Answer}
use Rattle.answer.specs.declared.Refusal.TheVariants as refusal
use Rattle.words.specs.Words.{word_count, stated_count, Length}
use Rattle.rule_file.specs.RuleFile.{variable_count}
use Rattle.rule_file.specs.declared.Limits.{Limits}
use Rattle.rule_file.specs.declared.Header.{Header}

-- no limit of k is over that of l, and they ask for order alike
pub record Tighter (k l : Limits) : Type 0 where
  pub bytes : k.bytes ≤ l.bytes
  pub variables : k.variables ≤ l.variables
  pub ordered : k.ordered ≡ l.ordered

-- a file within limits, whatever else is wrong with it
pub record WithinLimits (k : Limits) (b : List ℕ) : Type 0 where
  pub few_bytes : length b ≤ k.bytes
  pub few_variables : variable_count b ≤ k.variables

-- a file's answer within the limits k, beside its answer within others: the same; or 1, for a file over the bytes; or
-- 3, for one over the variables that passes 1 and 2
pub data Compared (k : Limits) (b : List ℕ) (within_k other : Answer Header) : Type 0 where
  agree : within_k ≡ other → Compared k b within_k other
  over_bytes : k.bytes < length b → within_k ≡ Err refusal.FileLength → Compared k b within_k other
  over_variables : Length rule_trailer k.bytes b → stated_count b ≡ word_count b → k.variables < variable_count b
      → within_k ≡ Err refusal.TooMany → Compared k b within_k other
