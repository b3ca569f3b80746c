use Rattle.term_grammar.proofs.GrammarLaws.{sorts_are_read, terms_are_read, sort_faults_are_found, term_faults_are_found, at_most_one_sort, at_most_one_term, sort_or_fault, term_or_fault, sorts_begin, terms_begin}
use Rattle.term_grammar.proofs.laws.grammar_laws.Goals as goal

pub returns : goal.returns
returns c = record {
  sorts = sorts_are_read;
  terms = terms_are_read;
  sort_faults = sort_faults_are_found;
  term_faults = term_faults_are_found;
  one_sort = at_most_one_sort;
  one_term = at_most_one_term;
  sort_or_fault = sort_or_fault;
  term_or_fault = term_or_fault;
  sort_bytes = sorts_begin;
  term_bytes = terms_begin;
}
