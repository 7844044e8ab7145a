pub mod Clashes
pub mod Refusing
pub mod RefusedBy
pub mod RoleNumbers
