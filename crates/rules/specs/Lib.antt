-- The numbers of a contract as the code holds them.
pub mod ContractListed
