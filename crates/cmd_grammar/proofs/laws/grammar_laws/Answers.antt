use Rattle.cmd_grammar.proofs.GrammarAgrees.{reads_found, found_reads, fault_found, found_fault, one_command, one_fault, not_both, one_of_both}
use Rattle.cmd_grammar.proofs.laws.grammar_laws.Goals as goal

pub returns : goal.returns
returns c = record {
  command = λ t k. (reads_found t k, found_reads t k);
  fault = λ t p. (fault_found t p, found_fault t p);
  one_command = one_command;
  one_fault = one_fault;
  not_both = not_both;
  one_of_both = one_of_both;
}
