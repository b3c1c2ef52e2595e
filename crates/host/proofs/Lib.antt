mod Octet
