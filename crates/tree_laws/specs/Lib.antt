pub mod VerilogWords
pub mod VerilogExpressions
pub mod VerilogStatements
pub mod VerilogDeclarations
pub mod CWords
pub mod CExpressions
pub mod CStatements
pub mod CDeclarations
